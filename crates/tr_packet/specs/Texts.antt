-- Packets as their texts.
use Rattle.std.specs.Prelude.{◌≡◌, ℕ, ◌<◌, ◌^◌, List, length, drop}
use Rattle.std.specs.List.{flat_map}
use Rattle.tr_record.specs.Whole.{AreWhole, entries_of}
use Rattle.tr_packet.specs.Packets.{Contents, IsPacket, contents, packet_text}
use Rattle.tr_packet.specs.declared.head.Head.{Head}
use Rattle.tr_terms.specs.declared.limits.TheConstants.{PACKET_HEADER}

-- packets, one after another
abbrev pub packets_text : List Contents → List ℕ
packets_text = flat_map packet_text

-- the bytes of the records in a packet's text
abbrev pub body_of : List ℕ → List ℕ
body_of text = drop PACKET_HEADER text

-- the packet of this head whose text this is
abbrev pub packet_in : Head → List ℕ → Contents
packet_in head text = contents head (entries_of (body_of text))

-- the bytes are the text of the packet of this head and so many records
pub record IsTextOf (head : Head) (count : ℕ) (text : List ℕ) : Type 0 where
  pub packet : IsPacket (packet_in head text)
  pub whole : AreWhole (body_of text)
  pub counted : count ≡ length (entries_of (body_of text))
  pub is_text : text ≡ packet_text (packet_in head text)

-- what fits the fields of a header and context
pub record HeadFits (h : Head) : Type 0 where
  pub uuid : length h.uuid ≡ 16
  pub stream : h.stream < 2 ^ 64
  pub begin : h.begin < 2 ^ 64
  pub end : h.end < 2 ^ 64
  pub seq : h.seq < 2 ^ 64
  pub lost : h.lost < 2 ^ 64
