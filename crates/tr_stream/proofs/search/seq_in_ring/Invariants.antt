use Rattle.std.proofs.Common.{◌≡◌, ◌++◌}
use Rattle.tr_ring.specs.Ring.{seq_of, seq_waiting}
use Rattle.tr_stream.proofs.search.seq_in_ring.Given as goal
use Rattle.tr_stream.specs.Chunks.{closed_if_any}
use Rattle.tr_stream.specs.Gaps.{BuffersRise, DiscardsShow, begun}

-- if one has the serial, it is among those that are left
abbrev pub invariant-loop-buffer : goal.invariant-loop-buffer
invariant-loop-buffer g l =
    let rest = l.buffer-iterator ++ closed_if_any l.ring.seq 0 l.ring.discarded l.ring.current in record {
      found : seq_waiting l.serial rest ≡ seq_of l.serial l.ring;
      begun : l.left ≡ begun l.serial rest;
      rise : BuffersRise 0 rest;
      gaps : DiscardsShow l.discarded rest;
    }
