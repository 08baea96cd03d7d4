-- What the packets that stand in a ring's pages say beside their records.
use Rattle.std.specs.Prelude.{ℕ, List, [], ◌∷◌, Option, Some, None}
use Rattle.tr_packet.specs.Packets.{Contents, contents}
use Rattle.tr_packet.specs.declared.head.Head.{Head}
use Rattle.tr_record.specs.Records.{Entry}
use Rattle.tr_subbuf.specs.SubBuffer.{SubBuffer, sub_buffer}
use Rattle.tr_ring.specs.ClosedBuffer.{ClosedBuffer}
use Rattle.tr_ring.specs.declared.origin.Origin.{Origin}

-- the moment of the first record
abbrev pub begin_of : List Entry → ℕ
begin_of [] = 0
begin_of (e ∷ es) = e.moment

-- the moment of the last record, or else m
abbrev pub last_after : ℕ → List Entry → ℕ
last_after m [] = m
last_after m (e ∷ es) = last_after e.moment es

abbrev pub head_from : Origin → ClosedBuffer → Head
head_from o b = record {
  uuid = o.uuid;
  stream = o.stream;
  begin = begin_of b.records;
  end = b.end;
  seq = b.seq;
  lost = b.discarded;
}

-- the packet that a closed sub-buffer becomes
abbrev pub packet_from : Origin → ClosedBuffer → Contents
packet_from o b = contents (head_from o b) b.records

-- a page says it once it has a record
abbrev pub said_of : List Entry → Head → Option Head
said_of [] h = None
said_of (e ∷ es) h = Some h

-- the page of a closed sub-buffer
abbrev pub page_from : Origin → ℕ → ClosedBuffer → SubBuffer
page_from o size b = sub_buffer b.records size (Some (head_from o b))
