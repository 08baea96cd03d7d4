-- A rotation's cuts at a desk, one hold of the locks after another.
use Rattle.std.specs.Prelude.{◌≡◌, ℕ, zero, suc, List, Option, Some, None, slice_get, slice_set}
use Rattle.tr_seats.specs.Cuts.{desk_after_cut, desk_cut_answer, slot_after_cut}
use Rattle.tr_seats.specs.Settling.{OpenedState, opened_state, streams_of}
use Rattle.tr_seats.specs.Slots.{SlotState}
use Rattle.tr_session.specs.Session.{SessionOf, session_of}
use Rattle.tr_stream.specs.State.{StreamState}
use Rattle.tr_terms.specs.declared.session_mode.SessionMode.TheVariants.{Local}

-- a desk and the slots as one session
abbrev pub session_in : OpenedState → SessionOf StreamState
session_in s = session_of s.desk.book (streams_of s.slots)

-- the slot of number i is cut, while its lock and the desk's are held
abbrev pub cut_slot : ℕ → Option SlotState → OpenedState → OpenedState
cut_slot i None s = s
cut_slot i (Some slot) s =
    opened_state (desk_after_cut (desk_cut_answer i s.desk slot) i s.desk) (slice_set s.slots i (slot_after_cut i s.desk slot))

-- the first `n` slots are cut, one after another
abbrev pub cut_slots : ℕ → OpenedState → OpenedState
cut_slots zero s = s
cut_slots (suc n) s = cut_slot n (slice_get (cut_slots n s).slots n) (cut_slots n s)

-- each stream lies where its number says, and is of a local session
abbrev pub AreLocal : List SlotState → Type 0
AreLocal slots = (i : ℕ) (slot : SlotState) → slice_get slots i ≡ Some slot
    → (i ≡ slot.number) × (slot.stream.config.session ≡ Local)
