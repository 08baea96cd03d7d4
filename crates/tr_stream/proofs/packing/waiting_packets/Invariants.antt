use Rattle.std.proofs.Common.{◌≡◌, ◌++◌, map}
use Rattle.tr_stream.proofs.packing.waiting_packets.Given as goal
use Rattle.tr_stream.specs.Chunks.{packet_of}
use Rattle.tr_stream.specs.Sound.{ArePackets}

-- the packets so far and those of the sub-buffers that are left are all, and what is left can be sent
abbrev pub invariant-loop-buffer : goal.invariant-loop-buffer
invariant-loop-buffer g l =
    (l.packets.items ++ map (packet_of l.config) l.buffer-iterator ≡ map (packet_of l.config) l.ring.waiting)
    × ArePackets l.config l.buffer-iterator
