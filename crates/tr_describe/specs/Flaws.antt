-- What is wrong with a stream's file: its bytes as packets, and the records of these.
use Rattle.std.specs.Prelude.{ℕ, Bool, not, ◌&&◌, nat_eq, List, [], ◌∷◌, drop, length, zero, suc, Option, Some, None, if◌then◌else◌}
use Rattle.std.specs.Cmp.Lexicographic.{pointwise}
use Rattle.std.specs.List.{find}
use Rattle.tr_chunk.specs.Audit.{belongs, records_of_packets}
use Rattle.tr_chunk.specs.Files.{packets_text}
use Rattle.tr_describe.specs.declared.flaws.Flaw.{Flaw}
use Rattle.tr_describe.specs.declared.flaws.Flaw.TheVariants.{Unsound, Unfit}
use Rattle.tr_events.specs.Events.{Declarations, fits_declared}
use Rattle.tr_folders.specs.Tree.{File}
use Rattle.tr_packet.specs.Decoding.{contents_in, first_fault}
use Rattle.tr_packet.specs.Packets.{Contents, packet_size}
use Rattle.tr_packet.specs.declared.faults.PacketFault.{PacketFault}
use Rattle.tr_record.specs.Records.{Entry}

-- ---- the packets of a file

-- the packet that bytes start with, if this is their first fault and it is of the trace and the stream
abbrev pub packet_by : List ℕ → ℕ → List ℕ → Option PacketFault → Option Contents
packet_by uuid stream bytes (Some fault) = None
packet_by uuid stream bytes None = if belongs uuid stream (contents_in bytes) then Some (contents_in bytes) else None

-- the packet of the trace and the stream that bytes start with
abbrev pub packet_at : List ℕ → ℕ → List ℕ → Option Contents
packet_at uuid stream bytes = packet_by uuid stream bytes (first_fault bytes)

-- a packet, and what comes after it
abbrev pub and_after : (List ℕ → List Contents) → List ℕ → Option Contents → List Contents
and_after more bytes None = []
and_after more bytes (Some p) = p ∷ more (drop (packet_size p) bytes)

-- the packets of the trace and the stream that bytes start with, end to end: at most `n`
unfoldable pub packets_within : ℕ → List ℕ → ℕ → List ℕ → List Contents
packets_within zero uuid stream bytes = []
packets_within (suc n) uuid stream bytes = and_after (packets_within n uuid stream) bytes (packet_at uuid stream bytes)

-- all of them: there are no more packets than bytes
abbrev pub packets_of : List ℕ → ℕ → List ℕ → List Contents
packets_of uuid stream bytes = packets_within (length bytes) uuid stream bytes

-- bytes are these packets, end to end
abbrev pub are_packets : List Contents → List ℕ → Bool
are_packets ps bytes = pointwise nat_eq bytes (packets_text ps)

-- ---- the records of packets

-- the record is of a declared id, and doesn't fit
abbrev pub is_unfit : Declarations → Entry → Bool
is_unfit events e = not (fits_declared events e.id e.payload)

-- the first such record
abbrev pub first_unfit : Declarations → List Entry → Option Entry
first_unfit events es = find (is_unfit events) es

-- ---- what is wrong

-- in a file that is sound or not, and has this first record that doesn't fit
abbrev pub flaw_by : Bool → Option Entry → Option Flaw
flaw_by sound (Some e) = Some (Unfit e.serial)
flaw_by sound None = if sound then None else Some Unsound

-- in bytes, after which the file ends, or breaks off, that start with these packets
abbrev pub flaw_after : Declarations → List Contents → List ℕ → Bool → Option Flaw
flaw_after events ps bytes breaks = flaw_by (not breaks && are_packets ps bytes) (first_unfit events (records_of_packets ps))

abbrev pub bytes_flaw : Declarations → List ℕ → ℕ → List ℕ → Bool → Option Flaw
bytes_flaw events uuid stream bytes breaks = flaw_after events (packets_of uuid stream bytes) bytes breaks

-- in a stream's file: the first record of a declared id that doesn't fit; or else, that it isn't there, can't be read, or isn't
-- packets of the trace and the stream to its end
abbrev pub file_flaw : Declarations → List ℕ → ℕ → Option File → Option Flaw
file_flaw events uuid stream None = Some Unsound
file_flaw events uuid stream (Some file) = bytes_flaw events uuid stream file.bytes file.breaks
