-- What became of the offer of a serial.
use Rattle.std.specs.Prelude.{ℕ, Bool, true, false, ◌==◌, ◌||◌, nat_lt, List, [], ◌∷◌, ◌++◌, Option, Some, None, find, if◌then◌else◌}
use Rattle.std.specs.List.{list_any}
use Rattle.std.specs.Option.{option_map, option_or, unwrap_or}
use Rattle.tr_book.specs.Parts.{PartState, PartsState, begun_at, known_from, seq_in_part}
use Rattle.tr_book.specs.Runs.{seq_in_runs}
use Rattle.tr_terms.specs.declared.mode.Mode.{Mode}
use Rattle.tr_terms.specs.declared.mode.Mode.TheVariants as mode
use Rattle.tr_record.specs.Records.{has_serial}
use Rattle.tr_ring.specs.Ring.{RingState, seq_of}
use Rattle.tr_stream.specs.History.{Status, Waiting, Dropped, Kept, Cleared, Block, Closed, History, offered_of}
use Rattle.tr_stream.specs.State.{StreamState}
use Rattle.tr_stream.specs.declared.fate.Fate.{Fate}
use Rattle.tr_stream.specs.declared.fate.Fate.TheVariants.{Discarded, Overwritten, InRing, InChunk, Forgotten}
use Rattle.tr_stream.specs.declared.fate.Fate.TheVariants as fate

-- it was discarded while the block was filling
abbrev pub is_discarded_in : ℕ → Block → Bool
is_discarded_in n b = list_any (λ (m : ℕ). m == n) b.discarded

abbrev pub is_discarded : ℕ → History → Bool
is_discarded n h = list_any (λ (c : Closed). is_discarded_in n c.block) h.closed || is_discarded_in n h.filling

-- the closed block that has its record
abbrev pub holder : ℕ → List Closed → Option Closed
holder n cs = find (λ (c : Closed). has_serial n c.block.records) cs

-- the fate of the records of a block of this status and number
abbrev pub status_fate : Status → ℕ → Fate
status_fate Waiting number = InRing number
status_fate Dropped number = Overwritten
status_fate (Kept k) number = InChunk k number
status_fate (Cleared consumed) number = fate.Cleared number

-- by the block that has its record: a closed one, or else the one that is filling
abbrev pub holder_fate : Option Closed → Block → Fate
holder_fate None filling = InRing filling.number
holder_fate (Some c) filling = status_fate c.status c.block.number

-- by the blocks; none if no offer with this serial was accepted
abbrev pub block_fate : ℕ → History → Option Fate
block_fate n h =
    if nat_lt n (offered_of h)
    then Some (if is_discarded n h then Discarded else holder_fate (holder n h.closed) h.filling)
    else None

-- an offer that is forgotten has no other fate
abbrev pub fate_unless : Bool → Option Fate → Option Fate
fate_unless true known = option_map (λ (f : Fate). Forgotten) known
fate_unless false known = known

-- by the history: the blocks tell of what was offered since the first chunk began that isn't forgotten
abbrev pub history_fate : ℕ → History → Option Fate
history_fate n h = fate_unless (nat_lt n (begun_at h.forgotten h.starts)) (block_fate n h)

-- the parts in order, the current one last
abbrev pub all_parts : PartsState → List PartState
all_parts p = p.closed ++ p.current ∷ []

-- by the first of these parts that has its record
abbrev pub fate_in_parts : ℕ → List PartState → Option Fate
fate_in_parts n [] = None
fate_in_parts n (p ∷ ps) = option_or (option_map (InChunk p.id) (seq_in_part n p)) (fate_in_parts n ps)

abbrev pub fate_in_ring : ℕ → RingState → Option Fate
fate_in_ring n r = option_map InRing (seq_of n r)

abbrev pub fate_in_runs : ℕ → PartsState → Option Fate
fate_in_runs n p = option_map fate.Cleared (seq_in_runs n p.cleared)

-- where its record is held, or that it was cleared
abbrev pub held_fate : ℕ → StreamState → Option Fate
held_fate n s =
    option_or (fate_in_parts n (all_parts s.parts)) (option_or (fate_in_runs n s.parts) (fate_in_ring n s.ring))

-- the fate of a record that is no longer held
abbrev pub loss_of : Mode → Fate
loss_of mode.Discard = Discarded
loss_of mode.Overwrite = Overwritten

-- by what a stream holds, and would hold if nothing were forgotten
abbrev pub found_fate : ℕ → StreamState → Option Fate
found_fate n s = if nat_lt n s.counters.offered then Some (unwrap_or (held_fate n s) (loss_of s.config.mode)) else None

abbrev pub state_fate : ℕ → StreamState → Option Fate
state_fate n s = fate_unless (nat_lt n (known_from s.parts)) (found_fate n s)
