-- Reading a packet from the front of bytes: its fields by their places, and the decoder's order of faults.
use Rattle.std.specs.Prelude.{◌≡◌, ℕ, ◌*◌, ◌/◌, ◌%◌, Bool, ◌&&◌, not, nat_eq, nat_le, nat_lt, List, ◌++◌, length, take, drop, Option, Some, None, if◌then◌else◌}
use Rattle.std.specs.Int.{Width, w32, w64, byte_len, from_le_bytes}
use Rattle.std.specs.List.{starts_with}
use Rattle.std.specs.Option.{option_or}
use Rattle.tr_record.specs.Records.{Entry}
use Rattle.tr_record.specs.Whole.{entries_at, entries_of}
use Rattle.tr_packet.specs.Order.{serials_rise, moments_hold}
use Rattle.tr_packet.specs.Packets.{Contents, IsPacket, magic, packet_text}
use Rattle.tr_packet.specs.declared.faults.PacketFault.{PacketFault}
use Rattle.tr_packet.specs.declared.faults.PacketFault.TheVariants.{Short, BadMagic, BadStreamId, BadSize, BadRecord, SerialOrder, MomentOrder}
use Rattle.tr_packet.specs.declared.layout.TheConstants.{BEGIN_AT, CONTENT_SIZE_AT, LOST_AT, END_AT, PACKET_SIZE_AT, SEQ_AT, STREAM_AT, STREAM_ID_AT, UUID_AT}
use Rattle.tr_terms.specs.declared.limits.TheConstants.{LARGEST_PACKET, PACKET_HEADER, SMALLEST_PACKET}

-- ---- a packet that bytes start with

-- the bytes start with the text of the packet p, and the rest follows
pub record Begins (p : Contents) (rest bytes : List ℕ) : Type 0 where
  pub packet : IsPacket p
  pub parts : bytes ≡ packet_text p ++ rest

-- ---- the fields, by their places

-- the number that begins at this byte, lowest byte first
abbrev pub number_from : Width → ℕ → List ℕ → ℕ
number_from w at bytes = from_le_bytes w (take (byte_len w) (drop at bytes))

-- a number of bytes, from a place on
abbrev pub bytes_from : ℕ → ℕ → List ℕ → List ℕ
bytes_from count at bytes = take count (drop at bytes)

abbrev pub stream_id_in : List ℕ → ℕ
stream_id_in = number_from w32 STREAM_ID_AT

abbrev pub begin_in : List ℕ → ℕ
begin_in = number_from w64 BEGIN_AT

abbrev pub end_in : List ℕ → ℕ
end_in = number_from w64 END_AT

abbrev pub content_bits_in : List ℕ → ℕ
content_bits_in = number_from w64 CONTENT_SIZE_AT

abbrev pub packet_bits_in : List ℕ → ℕ
packet_bits_in = number_from w64 PACKET_SIZE_AT

-- the bytes of the records: from the header's end to the packet's end
abbrev pub body_in : List ℕ → List ℕ
body_in bytes = drop PACKET_HEADER (take (packet_bits_in bytes / 8) bytes)

-- what the fields say, and the records
abbrev pub contents_in : List ℕ → Contents
contents_in bytes = record {
  head = record {
    uuid = bytes_from 16 UUID_AT bytes;
    stream = number_from w64 STREAM_AT bytes;
    begin = begin_in bytes;
    end = end_in bytes;
    seq = number_from w64 SEQ_AT bytes;
    lost = number_from w64 LOST_AT bytes;
  };
  records = entries_of (body_in bytes);
}

-- ---- the decoder's order

-- the sizes, in bits, are equal and a multiple of 8, and a packet may have as many bytes
abbrev pub sizes_hold : ℕ → ℕ → Bool
sizes_hold content size = nat_eq content size && (nat_eq (size % 8) 0
    && (nat_le (8 * SMALLEST_PACKET) size && nat_le size (8 * LARGEST_PACKET)))

-- the first fault of the header and context, whatever follows them
unfoldable pub fields_fault : List ℕ → Option PacketFault
fields_fault bytes =
    if nat_lt (length bytes) PACKET_HEADER then Some Short
    else if not (starts_with nat_eq bytes magic) then Some BadMagic
    else if not (nat_eq (stream_id_in bytes) 0) then Some BadStreamId
    else if not (sizes_hold (content_bits_in bytes) (packet_bits_in bytes)) then Some BadSize
    else None

-- and then that of the number of bytes
unfoldable pub front_fault : List ℕ → Option PacketFault
front_fault bytes = option_or (fields_fault bytes) (if nat_lt (length bytes) (packet_bits_in bytes / 8) then Some Short
    else None)

-- the first fault of the records of a packet that begins and ends at these moments; None: the bytes aren't whole records
abbrev pub records_fault : ℕ → ℕ → Option (List Entry) → Option PacketFault
records_fault begin end None = Some BadRecord
records_fault begin end (Some es) =
    if not (serials_rise es) then Some SerialOrder
    else if not (moments_hold begin end es) then Some MomentOrder
    else None

-- the first fault of the bytes; None: they start with a packet
abbrev pub first_fault : List ℕ → Option PacketFault
first_fault bytes = option_or (front_fault bytes) (records_fault (begin_in bytes) (end_in bytes)
    (entries_at (body_in bytes)))
