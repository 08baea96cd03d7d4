-- A page: the bytes of a sub-buffer.
use Rattle.std.specs.Prelude.{◌≡◌, ◌≤◌, ◌*◌, ℕ, List, [], ◌∷◌, ◌++◌, length, take, Option, Some, None}
use Rattle.tr_packet.specs.Decoding.{content_bits_in, contents_in}
use Rattle.tr_packet.specs.Packets.{header_text, context_text}
use Rattle.tr_packet.specs.Texts.{HeadFits, body_of}
use Rattle.tr_packet.specs.declared.head.Head.{Head}
use Rattle.tr_record.specs.Records.{Entry}
use Rattle.tr_record.specs.Weight.{weight_of}
use Rattle.tr_record.specs.Whole.{AreWhole, entries_of}
use Rattle.tr_subbuf.specs.SubBuffer.{IsWithin, SubBuffer, sub_buffer}
use Rattle.tr_terms.specs.declared.limits.TheConstants.{LARGEST_PACKET, PACKET_HEADER}

-- what the bytes say beside the records, if there is one
abbrev pub head_beside : List Entry → List ℕ → Option Head
head_beside [] bytes = None
head_beside (e ∷ es) bytes = Some (contents_in bytes).head

-- the records behind a packet's header and context
abbrev pub buffer_in : List ℕ → ℕ → SubBuffer
buffer_in bytes size =
    let es = entries_of (body_of bytes) in
    sub_buffer es size (head_beside es bytes)

-- the bytes begin with the header and context of a packet that has them all; without a record, with a size of 0
abbrev pub IsFront : Option Head → List ℕ → Type 0
IsFront None bytes = content_bits_in bytes ≡ 0
IsFront (Some h) bytes = HeadFits h × (bytes ≡ header_text h ++ (context_text h (8 * length bytes) ++ body_of bytes))

-- the most bytes that it may have when it has a record; without one there is no room for one more
abbrev pub limit_of : List Entry → ℕ → ℕ
limit_of [] size = 0
limit_of (e ∷ es) size = size

-- behind a packet's header and context its bytes are whole records, as many as it counts, which weigh what they take; they are
-- within the size, and there is room for the whole size
pub record IsPage (bytes : List ℕ) (count limit size capacity : ℕ) : Type 0 where
  pub header : PACKET_HEADER ≤ length bytes
  pub whole : AreWhole (body_of bytes)
  pub counted : count ≡ length (entries_of (body_of bytes))
  pub limited : limit ≡ limit_of (entries_of (body_of bytes)) size
  pub used : length bytes ≡ weight_of (entries_of (body_of bytes))
  pub within : IsWithin (buffer_in bytes size)
  pub front : IsFront (buffer_in bytes size).head bytes
  pub room : size ≤ capacity
  pub small : size ≤ LARGEST_PACKET

-- the first records of a page were copied, into memory that has room for all that it may ever have, and in which no packet
-- stands
pub record IsBegun (copy bytes : List ℕ) (size capacity : ℕ) : Type 0 where
  pub header : PACKET_HEADER ≤ length copy
  pub first : take (length (body_of copy)) (body_of bytes) ≡ body_of copy
  pub free : content_bits_in copy ≡ 0
  pub whole : size ≤ capacity
