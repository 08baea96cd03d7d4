-- A sub-buffer: records within a size.
use Rattle.std.specs.Prelude.{◌≡◌, ◌<◌, ◌≤◌, ℕ, ◌+◌, Bool, ◌&&◌, nat_le, nat_lt, List, [], ◌∷◌, ◌++◌, length, Option, Some, None}
use Rattle.std.specs.Option.{option_map}
use Rattle.tr_packet.specs.Decoding.{content_bits_in}
use Rattle.tr_packet.specs.Packets.{contents, packet_text}
use Rattle.tr_packet.specs.declared.head.Head.{Head}
use Rattle.tr_record.specs.Records.{Entry}
use Rattle.tr_record.specs.Weight.{weight_of}
use Rattle.tr_terms.specs.declared.limits.TheConstants.{RECORD_HEADER}

-- the records in order, the most bytes that they may have as a packet, and, once there is a record, what the packet that stands
-- in memory says beside them
pub record SubBuffer : Type 0 where
  pub records : List Entry
  pub size : ℕ
  pub head : Option Head

abbrev pub sub_buffer : List Entry → ℕ → Option Head → SubBuffer
sub_buffer records size head = record { records = records; size = size; head = head }

abbrev pub empty_buffer : ℕ → SubBuffer
empty_buffer size = sub_buffer [] size None

-- there is room for a record with a payload of this length
abbrev pub has_room : SubBuffer → ℕ → Bool
has_room b len = nat_le (weight_of b.records + (RECORD_HEADER + len)) b.size

-- it has a record already, and there is room for one more
abbrev pub joins : SubBuffer → ℕ → Bool
joins b len = nat_lt 0 (length b.records) && has_room b len

-- a packet that ends at this moment
abbrev pub ending : ℕ → Head → Head
ending end h = record h { end = end }

-- a packet before which so many records were discarded
abbrev pub losing : ℕ → Head → Head
losing lost h = record h { lost = lost }

-- the first record, and the packet ends at its moment
abbrev pub first_record : Head → Entry → SubBuffer → SubBuffer
first_record h e b = sub_buffer (e ∷ []) b.size (Some (ending e.moment h))

-- one more, and the packet ends at its moment
abbrev pub with_record : Entry → SubBuffer → SubBuffer
with_record e b = record b { records = b.records ++ e ∷ []; head = option_map (ending e.moment) b.head }

abbrev pub ended : ℕ → SubBuffer → SubBuffer
ended end b = record b { head = option_map (ending end) b.head }

abbrev pub with_lost : ℕ → SubBuffer → SubBuffer
with_lost lost b = record b { head = option_map (losing lost) b.head }

-- if it has a record, its packet has at most its size in bytes
abbrev pub IsWithin : SubBuffer → Type 0
IsWithin b = 0 < length b.records → weight_of b.records ≤ b.size

-- the bytes in memory: the text of a packet of all records, or, without a record, a size of 0, of which no packet is
abbrev pub IsShownBy : Option Head → List Entry → List ℕ → Type 0
IsShownBy None es bytes = content_bits_in bytes ≡ 0
IsShownBy (Some h) es bytes = bytes ≡ packet_text (contents h es)
