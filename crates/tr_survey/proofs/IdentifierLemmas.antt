-- The identifier in a header.
use Rattle.std.proofs.Common.{◌≡◌, ◌<◌, ℕ, Bool, true, cond, ltb, not, eqb, sym, ap, ◌∙◌, arith, List, length, Some, None}
use Rattle.std.specs.List.{starts_with}
use Rattle.std.proofs.lemmas.Bool.{lt-ltb}
use Rattle.std.proofs.lemmas.List.{take_all}
use Rattle.tr_folders.specs.Tree.{File}
use Rattle.tr_packet.specs.Decoding.{content_bits_in, fields_fault, packet_bits_in, sizes_hold, stream_id_in}
use Rattle.tr_packet.specs.Packets.{magic}
use Rattle.tr_packet.specs.declared.faults.PacketFault.{PacketFault}
use Rattle.tr_packet.specs.declared.faults.PacketFault.TheVariants.{Short, BadMagic, BadStreamId, BadSize}
use Rattle.tr_survey.specs.Identifiers.{uuid_by, uuid_in_file, uuid_in_header}
use Rattle.tr_terms.specs.declared.limits.TheConstants.{PACKET_HEADER}

few : (bytes : List ℕ) → ltb (length bytes) PACKET_HEADER ≡ true → fields_fault bytes ≡ Some Short
unfolding fields_fault
few bytes test =
    ap (λ (b : Bool). cond b (Some Short) (cond (not (starts_with eqb bytes magic)) (Some BadMagic)
    (cond (not (eqb (stream_id_in bytes) 0)) (Some BadStreamId)
    (cond (not (sizes_hold (content_bits_in bytes) (packet_bits_in bytes))) (Some BadSize) None)))) test

-- fewer bytes than a header has have none
pub short_header : (bytes : List ℕ) → length bytes < PACKET_HEADER → None ≡ uuid_in_header bytes
short_header bytes short = sym (ap (uuid_by bytes) (few bytes (lt-ltb (length bytes) PACKET_HEADER short)))

-- nor do bytes with another fault of their fields
pub bad_header : (bytes : List ℕ) (f : PacketFault) → fields_fault bytes ≡ Some f → None ≡ uuid_in_header bytes
bad_header bytes f fault = sym (ap (uuid_by bytes) fault)

pub good_header : (bytes : List ℕ) → fields_fault bytes ≡ None → uuid_in_header bytes ≡ uuid_by bytes None
good_header bytes none = ap (uuid_by bytes) none

-- a file that breaks off before its header's end
pub short_file : (file : File) → length file.bytes < PACKET_HEADER → None ≡ uuid_in_file (Some file)
short_file file short =
    short_header file.bytes short ∙ ap uuid_in_header (sym (take_all PACKET_HEADER file.bytes (omega (arith, short))))
