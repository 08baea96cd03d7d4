-- Packets and their texts.
use Rattle.std.specs.Prelude.{◌≡◌, ℕ, ◌*◌, ◌^◌, ◌<◌, ◌≤◌, IsTrue, List, [], ◌∷◌, ◌++◌, length}
use Rattle.std.specs.Int.{w32, w64, to_le_bytes}
use Rattle.std.specs.List.{AllByRecursion}
use Rattle.tr_record.specs.Records.{Entry, records_text, Fits}
use Rattle.tr_record.specs.Weight.{weight_of}
use Rattle.tr_packet.specs.Order.{serials_rise, moments_hold}
use Rattle.tr_packet.specs.declared.head.Head.{Head}
use Rattle.tr_terms.specs.declared.limits.TheConstants.{LARGEST_PACKET}

-- a packet, wherever it lies in memory
pub record Contents : Type 0 where
  pub head : Head
  pub records : List Entry

abbrev pub contents : Head → List Entry → Contents
contents head records = record { head = head; records = records }

-- the number 0xC1FC1FC1, lowest byte first
abbrev pub magic : List ℕ
magic = 0xC1 ∷ 0x1F ∷ 0xFC ∷ 0xC1 ∷ []

-- how many bytes a packet has
abbrev pub packet_size : Contents → ℕ
packet_size p = weight_of p.records

-- the packet header: magic, uuid, stream_id, stream_instance_id
abbrev pub header_text : Head → List ℕ
header_text h = magic ++ (h.uuid ++ (to_le_bytes w32 0 ++ to_le_bytes w64 h.stream))

-- timestamp_begin, timestamp_end, and the size in bits as content_size and packet_size
abbrev pub times_text : Head → ℕ → List ℕ
times_text h bits = to_le_bytes w64 h.begin ++ (to_le_bytes w64 h.end ++ (to_le_bytes w64 bits ++ to_le_bytes w64 bits))

-- the packet context: those, packet_seq_num, events_discarded
abbrev pub context_text : Head → ℕ → List ℕ
context_text h bits = times_text h bits ++ (to_le_bytes w64 h.seq ++ to_le_bytes w64 h.lost)

-- the bytes of a packet
abbrev pub packet_text : Contents → List ℕ
packet_text p = header_text p.head ++ (context_text p.head (8 * packet_size p) ++ records_text p.records)

-- records that make a packet which begins and ends at these moments
pub record MakePacket (begin end : ℕ) (es : List Entry) : Type 0 where
  pub fits : AllByRecursion Fits es
  pub serials : IsTrue (serials_rise es)
  pub moments : IsTrue (moments_hold begin end es)
  pub small : weight_of es ≤ LARGEST_PACKET

-- what a packet obeys
pub record IsPacket (p : Contents) : Type 0 where
  pub uuid : length p.head.uuid ≡ 16
  pub stream : p.head.stream < 2 ^ 64
  pub seq : p.head.seq < 2 ^ 64
  pub lost : p.head.lost < 2 ^ 64
  pub records : MakePacket p.head.begin p.head.end p.records
