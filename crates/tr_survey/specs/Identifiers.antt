-- The identifier of a session, among several, and those that packets have.
use Rattle.std.specs.Prelude.{ℕ, Bool, false, nat_eq, nat_lt, List, map, take, Option, Some, None, if◌then◌else◌}
use Rattle.std.specs.Cmp.Lexicographic.{pointwise}
use Rattle.std.specs.List.{count_by, flat_map, fold}
use Rattle.tr_folders.specs.Tree.{File, Tree}
use Rattle.tr_packet.specs.Decoding.{bytes_from, fields_fault}
use Rattle.tr_packet.specs.declared.faults.PacketFault.{PacketFault}
use Rattle.tr_packet.specs.declared.layout.TheConstants.{UUID_AT}
use Rattle.tr_survey.specs.Order.{Numbered}
use Rattle.tr_survey.specs.Paths.{file_in}
use Rattle.tr_survey.specs.declared.identifiers.Identity.{Identity}
use Rattle.tr_survey.specs.declared.identifiers.Identity.TheVariants.{Unknown, OfMetadata, OfPackets}
use Rattle.tr_terms.specs.declared.limits.TheConstants.{PACKET_HEADER}
use Rattle.uuid.specs.Parts.{zero_bytes}

-- it is this one
abbrev pub is_uuid : Option (List ℕ) → List ℕ → Bool
is_uuid None own = false
is_uuid (Some uuid) own = pointwise nat_eq uuid own

-- how often one is among these
abbrev pub times : List (Option (List ℕ)) → List ℕ → ℕ
times uuids uuid = count_by (λ (o : Option (List ℕ)). is_uuid o uuid) uuids

-- of two the one that is there more often, or the first
abbrev pub of_two : List (Option (List ℕ)) → Option (List ℕ) → Option (List ℕ) → Option (List ℕ)
of_two uuids first None = first
of_two uuids None (Some uuid) = Some uuid
of_two uuids (Some first) (Some uuid) = if nat_lt (times uuids first) (times uuids uuid) then Some uuid else Some first

-- the one that is there most often; of several the first
abbrev pub most_often : List (Option (List ℕ)) → Option (List ℕ)
most_often uuids = fold (of_two uuids) None uuids

-- ---- of packets

-- the identifier in a header, if this is right
abbrev pub uuid_by : List ℕ → Option PacketFault → Option (List ℕ)
uuid_by bytes None = Some (bytes_from 16 UUID_AT bytes)
uuid_by bytes (Some fault) = None

abbrev pub uuid_in_header : List ℕ → Option (List ℕ)
uuid_in_header bytes = uuid_by bytes (fields_fault bytes)

-- that of the header which a file begins with; what comes after it isn't looked at
abbrev pub uuid_in_file : Option File → Option (List ℕ)
uuid_in_file None = None
uuid_in_file (Some file) = uuid_in_header (take PACKET_HEADER file.bytes)

-- those of a stream's files in the archives of a folder
abbrev pub uuids_of_stream : Tree → List ℕ → List Numbered → Numbered → List (Option (List ℕ))
uuids_of_stream t folder archives stream = map (λ (a : Numbered). uuid_in_file (file_in t folder stream a)) archives

-- the identifier that most files of these streams begin with
abbrev pub uuid_of_packets : Tree → List ℕ → List Numbered → List Numbered → Option (List ℕ)
uuid_of_packets t folder archives streams = most_often (flat_map (uuids_of_stream t folder archives) streams)

-- ---- of a session

-- the one that metadata name, or else that of packets
abbrev pub identity_by : Option (List ℕ) → Option (List ℕ) → Identity
identity_by None None = Unknown
identity_by None (Some uuid) = OfPackets uuid
identity_by (Some uuid) packets = OfMetadata uuid

abbrev pub uuid_of : Identity → Option (List ℕ)
uuid_of Unknown = None
uuid_of (OfMetadata uuid) = Some uuid
uuid_of (OfPackets uuid) = Some uuid

-- the one that packets are judged by. If none is known, no file begins with a header, and none is looked at
abbrev pub judged_by : Identity → List ℕ
judged_by Unknown = zero_bytes
judged_by (OfMetadata uuid) = uuid
judged_by (OfPackets uuid) = uuid
