-- What a stream value shows by itself: each offer is in one place, and what is absent is what was lost.
use Rattle.std.specs.Prelude.{◌≡◌, ◌≢◌, ℕ, ◌+◌, ◌≤◌, ◌↔◌, Bool, List, [], ◌∷◌, ◌++◌, length, map, sum_by, Option, Some, None, if◌then◌else◌}
use Rattle.std.specs.List.{AllByRecursion}
use Rattle.tr_book.specs.Parts.{PartState, Rest}
pub use Rattle.tr_book.specs.Runs.{SerialsFollow, first_in}
use Rattle.tr_book.specs.declared.runs.Run.{Run}
use Rattle.tr_terms.specs.declared.mode.Mode.TheVariants.{Discard, Overwrite}
use Rattle.tr_packet.specs.Packets.{Contents}
use Rattle.tr_ring.specs.ClosedBuffer.{ClosedBuffer, closed_buffer}
use Rattle.tr_ring.specs.Ring.{seq_after}
use Rattle.tr_stream.specs.Chunks.{ring_buffers, buffer_runs}
use Rattle.tr_stream.specs.Fates.{all_parts}
use Rattle.tr_stream.specs.State.{StreamState, records_in}
use Rattle.tr_stream.specs.WellFormed.{RecordsRise, next_serial}

-- the sub-buffer that a packet was
abbrev pub buffer_in : Contents → ClosedBuffer
buffer_in p = closed_buffer p.head.seq p.head.end p.head.lost p.records

-- what is kept of these sub-buffers after a release: their runs, and how many they were and had records
pub record IsRestOf (rest : Rest) (buffers : List ClosedBuffer) : Type 0 where
  pub runs : rest.runs ≡ buffer_runs buffers
  pub packets : rest.packets ≡ length buffers
  pub records : rest.records ≡ records_in buffers

abbrev pub AreLeftOf : List Contents → Option Rest → List ClosedBuffer → Type 0
AreLeftOf packets None buffers = map buffer_in packets ≡ buffers
AreLeftOf packets (Some rest) buffers = IsRestOf rest buffers

-- a part is what is left of these sub-buffers: its packets give them back, or what is kept of these is theirs
abbrev pub IsLeftOf : PartState → List ClosedBuffer → Type 0
IsLeftOf p buffers = AreLeftOf p.packets p.released buffers

-- parts are what is left of these, one part after another
abbrev pub PartsLeft : List PartState → List ClosedBuffer → Type 0
PartsLeft [] buffers = buffers ≡ []
PartsLeft (p ∷ ps) buffers =
    (own : List ClosedBuffer) × (rest : List ClosedBuffer) × (buffers ≡ own ++ rest) × IsLeftOf p own × PartsLeft ps rest

-- the sub-buffer of a packet that is held, or that was cleared
pub record Piece : Type 0 where
  pub buffer : ClosedBuffer
  pub cleared : Bool

abbrev pub buffers_of : List Piece → List ClosedBuffer
buffers_of pieces = map (λ (p : Piece). p.buffer) pieces

-- those that are held
abbrev pub held_among : List Piece → List ClosedBuffer
held_among [] = []
held_among (p ∷ ps) = if p.cleared then held_among ps else p.buffer ∷ held_among ps

-- those that were cleared
abbrev pub cleared_among : List Piece → List ClosedBuffer
cleared_among [] = []
cleared_among (p ∷ ps) = if p.cleared then p.buffer ∷ cleared_among ps else cleared_among ps

-- a packet has a record: so one that was cleared has a run, and none can be put where a number is absent
abbrev pub HasRecord : Piece → Type 0
HasRecord p = p.buffer.records ≢ []

-- what the parts keep and the ring holds, in order, with the cleared packets put back between: what is known of these are
-- their runs
pub record ArePieces (s : StreamState) (pieces : List Piece) : Type 0 where
  pub kept : List ClosedBuffer
  pub left : PartsLeft (all_parts s.parts) kept
  pub held : held_among pieces ≡ kept ++ ring_buffers s.counters.last s.ring
  pub cleared : buffer_runs (cleared_among pieces) ≡ s.parts.cleared
  pub used : AllByRecursion HasRecord pieces

-- numbers and serials rise from the first two, and stay below the last two
abbrev pub Rising : ℕ → ℕ → List ClosedBuffer → ℕ → ℕ → Type 0
Rising seq serial [] next_seq next = (seq ≤ next_seq) × (serial ≤ next)
Rising seq serial (b ∷ bs) next_seq next =
    (seq ≤ b.seq) × RecordsRise serial b.records × Rising (b.seq + 1) (next_serial serial b.records) bs next_seq next

-- numbers follow each other
abbrev pub CountUp : ℕ → List ClosedBuffer → Type 0
CountUp n [] = Unit {0}
CountUp n (b ∷ bs) = (b.seq ≡ n) × CountUp (n + 1) bs

-- parts are numbered by their place
abbrev pub PartsFrom : ℕ → List PartState → Type 0
PartsFrom k [] = Unit {0}
PartsFrom k (p ∷ ps) = (p.id ≡ k) × PartsFrom (k + 1) ps

abbrev pub first_serial : List ClosedBuffer → ℕ → ℕ
first_serial [] next = next
first_serial (b ∷ bs) next = first_in b.records next

-- the records discarded up to a sub-buffer are those absent below the next one; `seen` serials are there before it
abbrev pub DiscardsAgree : ℕ → List ClosedBuffer → ℕ → Type 0
DiscardsAgree seen [] next = Unit {0}
DiscardsAgree seen (b ∷ bs) next =
    (b.discarded + (seen + length b.records) ≡ first_serial bs next) × DiscardsAgree (seen + length b.records) bs next

-- nothing is lost within a sub-buffer, serials are absent before it exactly where numbers are, and neither after the last
abbrev pub GapsAgree : ℕ → ℕ → List ClosedBuffer → ℕ → ℕ → Type 0
GapsAgree seq serial [] next_seq next = (seq ≡ next_seq) × (serial ≡ next)
GapsAgree seq serial (b ∷ bs) next_seq next =
    (b.discarded ≡ 0) × SerialsFollow (first_in b.records next) b.records
    × ((b.seq ≡ seq) ↔ (first_in b.records next ≡ serial))
    × GapsAgree (b.seq + 1) (next_serial serial b.records) bs next_seq next

-- the cleared packets can be put back between those that are held (in one way only, as numbers rise), and then
pub record IsConsistent (s : StreamState) : Type 0 where
  pub pieces : List Piece
  pub are : ArePieces s pieces
  -- the runs have as many records as were cleared
  pub gone : sum_by (λ (r : Run). r.count) s.parts.cleared ≡ s.counters.cleared
  -- numbers and serials rise strictly, below the next of each
  pub rising : Rising 0 0 (buffers_of pieces) (seq_after s.ring.seq s.ring.current) s.counters.offered
  pub parts : PartsFrom 0 (all_parts s.parts)
  -- the numbers of the ring follow each other up to the current one
  pub ring : (first : ℕ) × (first + length s.ring.waiting ≡ s.ring.seq) × CountUp first s.ring.waiting
  -- as many numbers are absent as sub-buffers were overwritten
  pub absent : length pieces + s.counters.overwritten_packets ≡ seq_after s.ring.seq s.ring.current
  -- in discard mode no number is absent, and each `discarded` says how many serials are
  pub discards : s.config.mode ≡ Discard
      → CountUp 0 (buffers_of pieces) × DiscardsAgree 0 (buffers_of pieces) s.counters.offered
  -- in overwrite mode serials are absent only between sub-buffers, exactly where numbers are
  pub overwrites : s.config.mode ≡ Overwrite
      → GapsAgree 0 0 (buffers_of pieces) (seq_after s.ring.seq s.ring.current) s.counters.offered
