-- The lines of a survey, each with its newline.
use Rattle.std.specs.Prelude.{ℕ, ◌||◌, nat_eq, nat_lt, List, [], ◌∷◌, ◌++◌, codes, map, Option, Some, None, if◌then◌else◌}
use Rattle.std.specs.Fmt.{decimal}
use Rattle.tr_chunk.specs.Faults.{audit_cause_code, audit_cause_name}
use Rattle.tr_chunk.specs.declared.audit_fault.AuditCause.{AuditCause}
use Rattle.tr_chunk.specs.declared.audit_fault.AuditCause.TheVariants as audit
use Rattle.tr_packet.specs.Faults.{packet_fault_code, packet_fault_name}
use Rattle.tr_survey.specs.Order.{Numbered}
use Rattle.tr_survey.specs.declared.identifiers.Identity.{Identity}
use Rattle.tr_survey.specs.declared.identifiers.Identity.TheVariants.{Unknown, OfMetadata, OfPackets}
use Rattle.tr_survey.specs.declared.sums.Sums.{Sums}
use Rattle.uuid.specs.Text.{lower, hyphenated_text}

abbrev pub uuid_text : Option (List ℕ) → List ℕ
uuid_text None = codes "none"
uuid_text (Some uuid) = hyphenated_text lower uuid

-- what begins a session: its name, its identifier, and how many archives it has
abbrev pub session_text : List ℕ → Option (List ℕ) → ℕ → List ℕ
session_text session uuid archives =
    codes "session " ++ (session ++ (codes " uuid " ++ (uuid_text uuid ++ (codes " archives " ++ (decimal archives ++ 10 ∷ [])))))

-- the session's identifier is that of its packets, since no metadata name one: no fault
abbrev pub source_text : Identity → List ℕ
source_text Unknown = []
source_text (OfMetadata uuid) = []
source_text (OfPackets uuid) = codes "uuid of packets\n"

-- a byte as lines show it of a name that may have any: a question mark in place of a control character
abbrev pub shown : ℕ → ℕ
shown b = if nat_lt b 32 || nat_eq b 127 then 63 else b

-- a folder that isn't named as a session, but has a folder of archives: no fault
abbrev pub passed_text : List ℕ → List ℕ
passed_text name = codes "passed over " ++ (map shown name ++ 10 ∷ [])

-- ---- a session's archives

-- numbers below that of the least archive: no fault
abbrev pub deleted_text : ℕ → List ℕ
deleted_text count = codes "deleted archives 0 " ++ (decimal count ++ 10 ∷ [])

-- a run of numbers that no archive has
abbrev pub missing_text : ℕ → ℕ → List ℕ
missing_text first count = codes "fault archives " ++ (decimal first ++ (32 ∷ (decimal count ++ codes " missing\n")))

-- a run of numbers that no stream has
abbrev pub no_streams_text : ℕ → ℕ → List ℕ
no_streams_text first count = codes "fault streams " ++ (decimal first ++ (32 ∷ (decimal count ++ codes " missing\n")))

-- an archive with which this is wrong
abbrev pub archive_text : List ℕ → List ℕ → List ℕ
archive_text archive wrong = codes "fault " ++ (archive ++ (32 ∷ (wrong ++ 10 ∷ [])))

-- a folder of archives that can't be read
abbrev pub closed_text : List ℕ
closed_text = codes "fault archives unreadable\n"

-- ---- a stream's packets

-- before a packet of this archive and moment
abbrev pub before_text : ℕ → ℕ → List ℕ
before_text archive moment = codes " before " ++ (decimal archive ++ (32 ∷ (decimal moment ++ 10 ∷ [])))

-- between the end of a packet of one archive and a packet of another, or the same one
abbrev pub between_text : ℕ → ℕ → ℕ → ℕ → List ℕ
between_text archive moment next next_moment =
    codes " between " ++ (decimal archive ++ (32 ∷ (decimal moment
    ++ (codes " and " ++ (decimal next ++ (32 ∷ (decimal next_moment ++ 10 ∷ [])))))))

-- a run of numbers that no packet of a stream has, before what says where it lies
abbrev pub gap_text : ℕ → ℕ → ℕ → List ℕ
gap_text stream first count = codes "gap " ++ (decimal stream ++ (32 ∷ (decimal first ++ (32 ∷ decimal count))))

-- records that a stream discarded, before what says when
abbrev pub lost_text : ℕ → ℕ → List ℕ
lost_text stream count = codes "lost " ++ (decimal stream ++ (32 ∷ decimal count))

-- ---- what is wrong with a stream

-- a cause as documents call it
abbrev pub cause_text : AuditCause → List ℕ
cause_text cause = audit_cause_code cause ++ (32 ∷ (audit_cause_name cause ++ packet_part cause))
  where
    packet_part : AuditCause → List ℕ
    packet_part (audit.Packet f) = 32 ∷ (packet_fault_code f ++ (32 ∷ packet_fault_name f))
    packet_part audit.NumberRepeat = []
    packet_part audit.SerialRepeat = []
    packet_part audit.Foreign = []
    packet_part audit.NoMemory = []

-- in this archive's file this is wrong with the packet that begins at this byte
abbrev pub packet_fault_text : ℕ → List ℕ → ℕ → List ℕ → List ℕ
packet_fault_text stream archive offset wrong =
    codes "fault " ++ (decimal stream ++ (32 ∷ (archive ++ (32 ∷ (decimal offset ++ (32 ∷ (wrong ++ 10 ∷ [])))))))

-- this is wrong with this archive's file
abbrev pub file_fault_text : ℕ → List ℕ → List ℕ → List ℕ
file_fault_text stream archive wrong = codes "fault " ++ (decimal stream ++ (32 ∷ (archive ++ (32 ∷ (wrong ++ 10 ∷ [])))))

-- ---- the ends

-- a stream's counts: packets, records, absent numbers and discarded records
abbrev pub counts_text : ℕ → ℕ → ℕ → ℕ → List ℕ
counts_text packets records absent lost =
    codes " packets " ++ (decimal packets
    ++ (codes " records " ++ (decimal records
    ++ (codes " absent " ++ (decimal absent
    ++ (codes " lost " ++ decimal lost))))))

-- the last number and serial, and the moments of the first packet's begin and the last one's end
abbrev pub last_text : ℕ → ℕ → ℕ → ℕ → List ℕ
last_text seq serial from to =
    codes " last " ++ (decimal seq ++ (32 ∷ (decimal serial
    ++ (codes " from " ++ (decimal from ++ (codes " to " ++ decimal to))))))

-- a stream: its number, its channel, and then these
abbrev pub stream_text : Numbered → List ℕ → List ℕ → List ℕ
stream_text stream counts last =
    codes "stream " ++ (decimal stream.number ++ (32 ∷ (stream.name ++ (counts ++ (last ++ 10 ∷ [])))))

-- numbers absent in a stream that discards: no fault
abbrev pub cleared_text : ℕ → ℕ → List ℕ
cleared_text stream count = codes "cleared or missing " ++ (decimal stream ++ (32 ∷ (decimal count ++ 10 ∷ [])))

-- an archive: its number, its name, which says when it began and ended, and what its files add to the counts of their streams
abbrev pub sums_text : Numbered → Sums → List ℕ
sums_text archive s =
    codes "archive " ++ (decimal archive.number ++ (32 ∷ (archive.name
    ++ (counts_text s.packets s.records s.absent s.lost ++ (codes " bytes " ++ (decimal s.bytes ++ 10 ∷ []))))))

-- the end: how many faults there are
abbrev pub end_text : ℕ → List ℕ
end_text faults = if nat_eq faults 0 then codes "whole\n" else codes "faulty " ++ (decimal faults ++ 10 ∷ [])
