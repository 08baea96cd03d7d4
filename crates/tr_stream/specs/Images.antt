-- What stands in the memory of a stream's ring.
use Rattle.std.specs.Prelude.{List, map}
use Rattle.tr_packet.specs.Packets.{Contents}
use Rattle.tr_ring.specs.Heads.{last_after}
use Rattle.tr_stream.specs.Chunks.{packet_of, ring_buffers}
use Rattle.tr_stream.specs.State.{StreamState}

-- the packets that a snapshot shows, but that the current sub-buffer's ends with its last record
abbrev pub packets_standing : StreamState → List Contents
packets_standing s = map (packet_of s.config) (ring_buffers (last_after 0 s.ring.current) s.ring)
