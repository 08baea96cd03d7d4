use Rattle.std.proofs.Common.{◌≡◌, ◌+◌, ◌++◌, length, map, vec_len}
use Rattle.std.specs.Prelude.{vec_capacity}
use Rattle.tr_stream.proofs.packing.take_waiting.Given as goal
use Rattle.tr_stream.specs.Chunks.{packet_of}
use Rattle.tr_stream.specs.Sound.{ArePackets}

-- the packets so far and those of the sub-buffers that are left are all, and what is left can be sent
abbrev pub invariant-loop : goal.invariant-loop
invariant-loop g l = record {
  packets : l.packets.items ++ map (packet_of l.config) l.ring.waiting
      ≡ l.initial.packets.items ++ map (packet_of l.config) l.initial.ring.waiting;
  left : ArePackets l.config l.ring.waiting;
  waiting : length l.ring.waiting + l.counter ≡ length l.initial.ring.waiting;
  ring : l.ring ≡ record l.initial.ring { waiting = l.ring.waiting };
  len : vec_len l.packets ≡ vec_len l.initial.packets + l.counter;
  capacity : vec_capacity l.packets ≡ vec_capacity l.initial.packets;
  size : l.spares.size ≡ l.initial.spares.size;
  count : l.spares.count + l.counter ≡ l.initial.spares.count;
}
