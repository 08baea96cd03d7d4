-- When what a stream holds is what a history says.
use Rattle.std.specs.Prelude.{◌≡◌}
use Rattle.tr_stream.specs.Chunks.{chunk_of, parts_below, part_of, waiting_of, cleared_of, buffer_runs}
use Rattle.tr_stream.specs.History.{History, is_dropped, is_consumed, is_cleared, is_withdrawn, offered_of, discarded_of, records_where, blocks_where}
use Rattle.tr_stream.specs.State.{StreamState}
use Rattle.tr_stream.specs.WellFormed.{IsWellFormed}

pub record StandsFor (s : StreamState) (h : History) : Type 0 where
  pub model : IsWellFormed h
  -- the closed parts are the chunks below the cuts, and the current part is the chunk after them
  pub closed : s.parts.closed ≡ parts_below s.config h.cuts h
  pub current : s.parts.current ≡ part_of s.config h.cuts (chunk_of h.cuts h)
  -- as many offers had been accepted when each part began, and as many parts are forgotten
  pub starts : s.parts.starts ≡ h.starts
  pub forgotten : s.parts.forgotten ≡ h.forgotten
  -- the runs are those of the blocks that were cleared
  pub runs : s.parts.cleared ≡ buffer_runs (cleared_of h)
  -- the ring is the blocks that wait, and the one that is filling
  pub waiting : s.ring.waiting ≡ waiting_of h
  pub filling : s.ring.current ≡ h.filling.records
  pub number : s.ring.seq ≡ h.filling.number
  pub discarded : s.ring.discarded ≡ discarded_of h
  pub offered : s.counters.offered ≡ offered_of h
  pub overwritten : s.counters.overwritten ≡ records_where is_dropped h.closed
  pub overwritten_packets : s.counters.overwritten_packets ≡ blocks_where is_dropped h.closed
  pub consumed : s.counters.consumed ≡ records_where is_consumed h.closed
  pub cleared : s.counters.cleared ≡ records_where is_cleared h.closed
  pub withdrawn : s.counters.withdrawn ≡ records_where is_withdrawn h.closed
  pub last : s.counters.last ≡ h.last
  pub active : s.active ≡ h.active
