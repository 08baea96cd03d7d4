use Rattle.std.proofs.Common.{◌≡◌, map, take}
use Rattle.tr_stream.proofs.copying.waiting_out.Given as goal
use Rattle.tr_stream.specs.Chunks.{packet_of}

-- the packets of the first sub-buffers were copied, and the ring is as it was
abbrev pub invariant-loop-i : goal.invariant-loop-i
invariant-loop-i g l =
    (l.packets.items ≡ map (packet_of l.config) (take l.i l.initial.ring.waiting))
    × (l.ring ≡ l.initial.ring)
