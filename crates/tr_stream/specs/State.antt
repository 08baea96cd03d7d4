-- What a stream holds.
use Rattle.std.specs.Prelude.{ℕ, ◌+◌, Bool, List, length, sum_by}
use Rattle.tr_book.specs.Counters.{CountersState}
use Rattle.tr_book.specs.Parts.{PartsState, part_records}
use Rattle.tr_ring.specs.Ring.{RingState}
use Rattle.tr_ring.specs.ClosedBuffer.{ClosedBuffer}
use Rattle.tr_stream.specs.declared.config.StreamConfig.{StreamConfig}

-- what it was made with, its ring, the parts that the ring was consumed into, its counters, and whether it takes offers
pub record StreamState : Type 0 where
  pub config : StreamConfig
  pub ring : RingState
  pub parts : PartsState
  pub counters : CountersState
  pub active : Bool

abbrev pub stream_state : StreamConfig → RingState → PartsState → CountersState → Bool → StreamState
stream_state config ring parts counters active =
    record { config = config; ring = ring; parts = parts; counters = counters; active = active }

-- how many records closed sub-buffers hold
abbrev pub records_in : List ClosedBuffer → ℕ
records_in buffers = sum_by (λ (b : ClosedBuffer). length b.records) buffers

-- how many records the ring holds
abbrev pub in_ring : RingState → ℕ
in_ring r = records_in r.waiting + length r.current

-- how many records the parts hold
abbrev pub in_parts : PartsState → ℕ
in_parts p = sum_by part_records p.closed + part_records p.current
