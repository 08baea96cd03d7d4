use Rattle.std.proofs.Common.{◌≡◌, slice_get}
use Rattle.tr_ring.proofs.RecordLemmas.{records_from}
use Rattle.tr_ring.proofs.ring.Ring.record.Given as goal
use Rattle.tr_ring.specs.Ring.{ring_records}

-- the record is that one of those that are left
abbrev pub invariant-loop-buffer : goal.invariant-loop-buffer
invariant-loop-buffer g l =
    slice_get (records_from l.buffer-iterator l.self.current) l.left ≡ slice_get (ring_records l.self) l.k
