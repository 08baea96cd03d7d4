use Rattle.std.proofs.Common.{◌≡◌, ◌++◌}
use Rattle.tr_stream.proofs.packing.ring_runs.Given as goal
use Rattle.tr_stream.specs.Chunks.{buffer_runs, closed_if_any}
use Rattle.tr_stream.specs.Gaps.{DiscardsShow}

-- the runs so far and those of the sub-buffers that are left are all, and the gaps of these show
abbrev pub invariant-loop-buffer : goal.invariant-loop-buffer
invariant-loop-buffer g l =
    (l.runs ++ buffer_runs l.buffer-iterator ≡ buffer_runs l.ring.waiting)
    × DiscardsShow l.discarded (l.buffer-iterator ++ closed_if_any l.ring.seq 0 l.ring.discarded l.ring.current)
