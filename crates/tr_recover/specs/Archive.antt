-- What an archive of packets is on a disk, where nothing is known of their session.
use Rattle.std.specs.Prelude.{ℕ, zero, suc, ◌+◌, ◌-◌, List, [], ◌∷◌, ◌++◌, ◌==◌, codes, map, nat_lt, pos, if◌then◌else◌}
use Rattle.tr_chunk.specs.ArchiveName.{archive_name_text}
use Rattle.tr_chunk.specs.Audit.{capped_count}
use Rattle.tr_chunk.specs.Files.{file_name, packets_text}
use Rattle.tr_export.specs.Making.{Makings}
use Rattle.tr_export.specs.Paths.{folder_of, path_of}
use Rattle.tr_export.specs.declared.made.Made.{Made}
use Rattle.tr_export.specs.declared.made.Made.TheVariants.{File, Folder}
use Rattle.tr_packet.specs.Packets.{Contents}
use Rattle.tr_terms.specs.declared.limits.TheConstants.{MOST_STREAMS}

-- ---- the packets of each stream

-- how many of the first packets are of the first one's stream
abbrev pub lead_count : List Contents → ℕ
lead_count [] = 0
lead_count (p ∷ []) = 1
lead_count (p ∷ q ∷ ps) = if p.head.stream == q.head.stream then suc (lead_count (q ∷ ps)) else 1

-- a packet before those of each stream
abbrev pub led_by : Contents → List (List Contents) → List (List Contents)
led_by p [] = (p ∷ []) ∷ []
led_by p ([] ∷ parts) = (p ∷ []) ∷ parts
led_by p ((q ∷ qs) ∷ parts) = if p.head.stream == q.head.stream then (p ∷ q ∷ qs) ∷ parts else (p ∷ []) ∷ (q ∷ qs) ∷ parts

-- packets that stand side by side, parted where the stream is another
abbrev pub parted : List Contents → List (List Contents)
parted [] = []
parted (p ∷ ps) = led_by p (parted ps)

-- ---- streams

-- a stream's number and its packets
abbrev pub StreamPackets : Type 0
StreamPackets = ℕ × List Contents

-- so many streams from a number on that have no packets
abbrev pub empty_streams : ℕ → ℕ → List StreamPackets
empty_streams next zero = []
empty_streams next (suc n) = (next, []) ∷ empty_streams (next + 1) n

-- those from a number on and below a stream that has some; none if a session can't have that stream
abbrev pub streams_below : ℕ → ℕ → List StreamPackets
streams_below next stream = if nat_lt stream MOST_STREAMS then empty_streams next (stream - next) else []

-- the stream of these packets, after those below it from a number on
abbrev pub part_streams : ℕ → List Contents → List StreamPackets
part_streams next [] = []
part_streams next (p ∷ ps) = streams_below next p.head.stream ++ (p.head.stream, p ∷ ps) ∷ []

-- the number after its own
abbrev pub next_stream : ℕ → List Contents → ℕ
next_stream next [] = next
next_stream next (p ∷ ps) = capped_count (p.head.stream + 1)

-- the same of several streams
abbrev pub parts_streams : ℕ → List (List Contents) → List StreamPackets
parts_streams next [] = []
parts_streams next (ps ∷ parts) = part_streams next ps ++ parts_streams (next_stream next ps) parts

-- each stream up to the last one that has packets
abbrev pub streams_found : List Contents → List StreamPackets
streams_found ps = parts_streams 0 (parted ps)

-- ---- when they begin and end

abbrev pub earliest : ℕ → List Contents → ℕ
earliest found [] = found
earliest found (p ∷ ps) = earliest (if nat_lt p.head.begin found then p.head.begin else found) ps

abbrev pub latest : ℕ → List Contents → ℕ
latest found [] = found
latest found (p ∷ ps) = latest (if nat_lt found p.head.end then p.head.end else found) ps

-- ---- on a disk

-- a text in a stream's file, ring_NUMBER
abbrev pub stream_file : List ℕ → ℕ → List ℕ → Made (List ℕ) (List ℕ)
stream_file folder stream text = File (path_of folder (file_name (codes "ring") stream)) text

-- the files of streams
abbrev pub files_made : List ℕ → List StreamPackets → Makings
files_made folder = map (λ (s : StreamPackets). stream_file folder s.0 (packets_text s.1))

abbrev pub streams_made : List ℕ → List Contents → Makings
streams_made folder ps = files_made folder (streams_found ps)

-- the folder DIR/recovered/archives/ARCHIVE, by when they began and ended, in UTC
abbrev pub folder_for : List ℕ → Contents → List Contents → List ℕ
folder_for dir p ps = folder_of dir (codes "recovered") (archive_name_text (earliest p.head.begin ps) (latest p.head.end ps) (pos 0) 0)

-- the archive of packets: its folder, the files of streams, and last the metadata; nothing if there are no packets
abbrev pub recovered_made : List ℕ → List ℕ → List Contents → Makings
recovered_made dir metadata [] = []
recovered_made dir metadata (p ∷ ps) =
    Folder (folder_for dir p ps)
    ∷ (streams_made (folder_for dir p ps) (p ∷ ps) ++ File (path_of (folder_for dir p ps) (codes "metadata")) metadata ∷ [])
