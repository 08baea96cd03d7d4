-- A ring as the list of its closed sub-buffers, and the current one.
use Rattle.std.specs.Prelude.{ℕ, ◌+◌, ◌≤◌, Bool, nat_lt, List, [], ◌∷◌, ◌++◌, length, drop, Option, Some, None, find, if◌then◌else◌}
use Rattle.std.specs.List.{AllByRecursion, flat_map}
use Rattle.std.specs.Option.{option_map, option_or}
use Rattle.tr_record.specs.Records.{Entry, has_serial}
use Rattle.tr_record.specs.Weight.{weight_of}
use Rattle.tr_subbuf.specs.SubBuffer.{SubBuffer, has_room, sub_buffer}
use Rattle.tr_ring.specs.declared.pushed.Pushed.{Pushed}
use Rattle.tr_ring.specs.declared.pushed.Pushed.TheVariants.{Stored, StoredOver, Refused}
use Rattle.tr_packet.specs.declared.head.Head.{Head}
use Rattle.tr_ring.specs.declared.origin.Origin.{Origin}
use Rattle.tr_ring.specs.ClosedBuffer.{ClosedBuffer, closed_buffer}
use Rattle.tr_ring.specs.Heads.{head_from, last_after, said_of}
use Rattle.tr_terms.specs.declared.limits.TheConstants.{FEWEST_SUB_BUFFERS, LARGEST_PACKET, SMALLEST_PACKET}

-- the closed sub-buffers that wait, the oldest first; the current one's records and number; how many records the ring
-- discarded; each sub-buffer's size, how many there are, whether the oldest one is overwritten, and whose packets they become
pub record RingState : Type 0 where
  pub waiting : List ClosedBuffer
  pub current : List Entry
  pub seq : ℕ
  pub discarded : ℕ
  pub size : ℕ
  pub count : ℕ
  pub overwrite : Bool
  pub origin : Origin

abbrev pub ring_state : List ClosedBuffer → List Entry → ℕ → ℕ → ℕ → ℕ → Bool → Origin → RingState
ring_state waiting current seq discarded size count overwrite origin =
    record {
      waiting = waiting;
      current = current;
      seq = seq;
      discarded = discarded;
      size = size;
      count = count;
      overwrite = overwrite;
      origin = origin;
    }

abbrev pub empty_ring : Origin → ℕ → ℕ → Bool → RingState
empty_ring origin size count overwrite =
    ring_state [] [] 0 0 size count overwrite origin

-- what the packet that stands in the current page says: it ends with the last record
abbrev pub current_head : Origin → ℕ → ℕ → List Entry → Option Head
current_head o seq discarded es = said_of es (head_from o (closed_buffer seq (last_after 0 es) discarded es))

abbrev pub current_buffer : RingState → SubBuffer
current_buffer r = sub_buffer r.current r.size (current_head r.origin r.seq r.discarded r.current)

-- the current sub-buffer as it is when it is closed at this moment
abbrev pub closed_current : ℕ → RingState → ClosedBuffer
closed_current end r = closed_buffer r.seq end r.discarded r.current

-- the record joins the current sub-buffer
abbrev pub join_current : Entry → RingState → RingState
join_current e r = record r { current = r.current ++ e ∷ [] }

-- the current sub-buffer is closed at the record's moment, and the next one begins with the record
abbrev pub follow_current : Entry → RingState → RingState
follow_current e r = record r {
  waiting = r.waiting ++ closed_current e.moment r ∷ [];
  current = e ∷ [];
  seq = r.seq + 1;
}

-- the record is discarded
abbrev pub discard_newest : RingState → RingState
discard_newest r = record r { discarded = r.discarded + 1 }

-- the oldest closed sub-buffer is removed
abbrev pub drop_front : RingState → RingState
drop_front r = record r { waiting = drop 1 r.waiting }

-- the current sub-buffer is closed, and an empty one follows
abbrev pub close_current : ℕ → RingState → RingState
close_current end r = record r { waiting = r.waiting ++ closed_current end r ∷ []; current = []; seq = r.seq + 1 }

-- the current sub-buffer is handed out, and an empty one follows
abbrev pub take_current : RingState → RingState
take_current r = record r { current = []; seq = r.seq + 1 }

-- the first number that no sub-buffer with a record has had
abbrev pub seq_after : ℕ → List Entry → ℕ
seq_after seq [] = seq
seq_after seq (e ∷ es) = seq + 1

-- all records are removed
abbrev pub clear_ring : RingState → RingState
clear_ring r = record r { waiting = []; current = []; seq = seq_after r.seq r.current }

-- the four cases of an offer: it joins, it follows, it overwrites the oldest, or it is discarded
abbrev pub after_push : Entry → RingState → RingState
after_push e r =
    if has_room (current_buffer r) (length e.payload) then join_current e r
    else (if nat_lt (length r.waiting + 1) r.count then follow_current e r
    else (if r.overwrite then follow_current e (drop_front r)
    else discard_newest r))

-- the answer gives the oldest one's number, and how many records it has
abbrev pub over_first : ℕ → List ClosedBuffer → Pushed
over_first seq [] = Stored seq
over_first seq (b ∷ bs) = StoredOver seq b.seq (length b.records)

abbrev pub push_answer : Entry → RingState → Pushed
push_answer e r =
    if has_room (current_buffer r) (length e.payload) then Stored r.seq
    else (if nat_lt (length r.waiting + 1) r.count then Stored (r.seq + 1)
    else (if r.overwrite then over_first (r.seq + 1) r.waiting
    else Refused))

-- the number of the closed sub-buffer that has the record of a serial
abbrev pub seq_waiting : ℕ → List ClosedBuffer → Option ℕ
seq_waiting n waiting = option_map (λ (b : ClosedBuffer). b.seq)
    (find (λ (b : ClosedBuffer). has_serial n b.records) waiting)

-- the number of the sub-buffer that has the record of a serial
abbrev pub seq_of : ℕ → RingState → Option ℕ
seq_of n r = option_or (seq_waiting n r.waiting) (if has_serial n r.current then Some r.seq else None)

-- the records that the ring holds, the oldest first
abbrev pub ring_records : RingState → List Entry
ring_records r = flat_map (λ (b : ClosedBuffer). b.records) r.waiting ++ r.current

-- a closed sub-buffer has a record, and its packet is no larger than this size
pub record IsClosedWithin (size : ℕ) (b : ClosedBuffer) : Type 0 where
  pub some : 1 ≤ length b.records
  pub within : weight_of b.records ≤ size

-- what every ring obeys
pub record IsRing (r : RingState) : Type 0 where
  pub room : length r.waiting + 1 ≤ r.count
  pub closed : AllByRecursion (IsClosedWithin r.size) r.waiting
  pub current : weight_of r.current ≤ r.size
  pub size_low : SMALLEST_PACKET ≤ r.size
  pub size_high : r.size ≤ LARGEST_PACKET
  pub count_low : FEWEST_SUB_BUFFERS ≤ r.count
