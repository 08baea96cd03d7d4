-- A rotation's cuts at a desk are its session's.
use Rattle.std.proofs.Common.{◌≡◌, ◌∙◌, ◌⊎◌, ◌<◌, ◌≤◌, ◌+◌, ℕ, zero, suc, List, [], ◌∷◌, Option, Some, Result, Ok, Err, ap, arith, inl, inr, length, refl, set, subst, sym, ⊎_elim}
use Rattle.std.specs.Prelude.{option_map, slice_get}
use Rattle.std.proofs.lemmas.Grind.{common_steps}
use Rattle.std.proofs.lemmas.List.{length-set, map-set}
use Rattle.std.proofs.lemmas.Option.{slice_get-map}
use Rattle.tr_seats.proofs.CutLemmas.{cut-after}
use Rattle.tr_seats.proofs.SlotLemmas.{if-same}
use Rattle.tr_seats.specs.Cuts.{desk_after_cut, desk_cut_answer, slot_after_cut, stream_after_cut}
use Rattle.tr_seats.specs.Settling.{OpenedState, streams_of}
use Rattle.tr_seats.specs.Slots.{SlotState}
use Rattle.tr_session.specs.Session.{session_of}
use Rattle.tr_session.specs.Steps.{cut_first, session_after_cut}
use Rattle.tr_session_book.specs.BookSteps.{cut_moment}
use Rattle.tr_session_book.specs.declared.faults.SessionFault.{SessionFault}
use Rattle.tr_shared.specs.Rotations.{AreLocal, cut_slot, cut_slots, session_in}
use Rattle.tr_stream.specs.Rules.{by_state}
use Rattle.tr_stream.specs.State.{StreamState}
use Rattle.tr_stream.specs.declared.config.StreamConfig.{StreamConfig}
use Rattle.tr_terms.specs.declared.session_mode.SessionMode.TheVariants.{Local}

abbrev stream_in : SlotState → StreamState
stream_in s = s.stream

-- what lies at a place
at-place : (xs : List SlotState) (n : ℕ) → n < length xs → (x : SlotState) × (slice_get xs n ≡ Some x)
at-place [] n lt = absurd (omega (arith, lt))
at-place (x ∷ xs) zero lt = (x, refl)
at-place (x ∷ xs) (suc n) lt =
    let count : length (x ∷ xs) ≡ length xs + 1 = grind (arith, common_steps) in at-place xs n (omega (arith, lt, count))

-- what a list has after one element was replaced
replaced : (xs : List SlotState) (i j : ℕ) (x y : SlotState) → slice_get (set xs i y) j ≡ Some x
    → ((j ≡ i) × (y ≡ x)) ⊎ (slice_get xs j ≡ Some x)
replaced [] i j x y got = inr got
replaced (z ∷ zs) zero zero x y got = inl (refl, cc)
replaced (z ∷ zs) zero (suc j) x y got = inr got
replaced (z ∷ zs) (suc i) zero x y got = inr got
replaced (z ∷ zs) (suc i) (suc j) x y got =
    ⊎_elim (λ (t : (j ≡ i) × (y ≡ x)). inl (ap suc t.0, t.1)) (λ (t : slice_get zs j ≡ Some x). inr t) (replaced zs i j x y got)

config-cut : (due : Result ℕ SessionFault) (t : StreamState) → t.config.session ≡ Local → (stream_after_cut due t).config ≡ t.config
config-cut (Err fault) t local = refl
config-cut (Ok moment) t local = rw local refl

module _ (i : ℕ) (s : OpenedState) (slot : SlotState) (at : slice_get s.slots i ≡ Some slot) (local : AreLocal s.slots) where
  here : i ≡ slot.number
  here = (local i slot at).0

  new : SlotState
  new = slot_after_cut i s.desk slot

  new-is : slot_after_cut i s.desk slot ≡ record slot { stream = stream_after_cut (cut_moment i s.desk.book) slot.stream }
  new-is = if-same i slot.number (record slot { stream = stream_after_cut (cut_moment i s.desk.book) slot.stream }) slot here

  still-local : AreLocal (cut_slot i (Some slot) s).slots
  still-local j x got =
      ⊎_elim (λ (t : (j ≡ i) × (slot_after_cut i s.desk slot ≡ x)).
      let number : slot.number ≡ x.number = ap (λ (y : SlotState). y.number) (sym new-is ∙ t.1) in
      let config : (stream_after_cut (cut_moment i s.desk.book) slot.stream).config ≡ x.stream.config =
      ap (λ (y : SlotState). y.stream.config) (sym new-is ∙ t.1) in
      let same = config-cut (cut_moment i s.desk.book) slot.stream (local i slot at).1 in
      (t.0 ∙ here ∙ number, ap (λ (c : StreamConfig). c.session) (sym config ∙ same) ∙ (local i slot at).1))
      (λ (t : slice_get s.slots j ≡ Some x). local j x t) (replaced s.slots i j x (slot_after_cut i s.desk slot) got)

  step : session_in (cut_slot i (Some slot) s) ≡ session_after_cut by_state i (session_in s)
  step =
      let there : slice_get (streams_of s.slots) i ≡ Some slot.stream =
      slice_get-map stream_in s.slots i ∙ ap (option_map stream_in) at in
      ap (session_of (desk_after_cut (desk_cut_answer i s.desk slot) i s.desk).book)
      (map-set stream_in s.slots i (slot_after_cut i s.desk slot))
      ∙ cut-after i s.desk slot (streams_of s.slots) here there (local i slot at).1

record Goes (n : ℕ) (s : OpenedState) : Type 0 where
  same : session_in (cut_slots n s) ≡ cut_first by_state n (session_in s)
  local : AreLocal (cut_slots n s).slots
  long : length (cut_slots n s).slots ≡ length s.slots

goes : (n : ℕ) (s : OpenedState) → n ≤ length s.slots → AreLocal s.slots → Goes n s
goes zero s within local = record { same = refl; local = local; long = refl }
goes (suc n) s within local =
    let was = goes n s (omega (arith, within)) local in
    let t = cut_slots n s in
    let found = at-place t.slots n (omega (arith, within, was.long)) in
    let is = found.1 in
    record {
      same = ap (λ (o : Option SlotState). session_in (cut_slot n o t)) is ∙ step n t found.0 is was.local
          ∙ ap (session_after_cut by_state n) was.same;
      local = subst (λ (o : Option SlotState). AreLocal (cut_slot n o t).slots) (sym is) (still-local n t found.0 is was.local);
      long = ap (λ (o : Option SlotState). length (cut_slot n o t).slots) is
          ∙ length-set t.slots n (slot_after_cut n t.desk found.0) ∙ was.long;
    }

pub rotation-cuts : (n : ℕ) (s : OpenedState) → n ≤ length s.slots → AreLocal s.slots
    → session_in (cut_slots n s) ≡ cut_first by_state n (session_in s)
rotation-cuts n s within local = (goes n s within local).same
