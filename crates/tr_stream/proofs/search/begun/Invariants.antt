use Rattle.std.proofs.Common.{◌≡◌, ◌+◌, ◌++◌}
use Rattle.tr_stream.proofs.search.begun.Given as goal
use Rattle.tr_stream.specs.Chunks.{closed_if_any, ring_buffers}
use Rattle.tr_stream.specs.Gaps.{begun}

-- with those that are left, all are counted
abbrev pub invariant-loop-buffer : goal.invariant-loop-buffer
invariant-loop-buffer g l =
    l.count + begun l.serial (l.buffer-iterator ++ closed_if_any l.ring.seq 0 l.ring.discarded l.ring.current)
    ≡ begun l.serial (ring_buffers 0 l.ring)
