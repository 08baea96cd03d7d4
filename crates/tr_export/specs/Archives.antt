-- What a session's archives are on a disk.
use Rattle.std.specs.Prelude.{◌≡◌, ℕ, zero, suc, List, [], ◌∷◌, ◌++◌, codes, length, slice_get, Option, Some, None, option_and_then, ◌==◌, if◌then◌else◌}
use Rattle.std.specs.List.{flat_map}
use Rattle.tr_book.specs.Parts.{PartState, part_at}
use Rattle.tr_chunk.specs.ArchiveName.{archive_name_text}
use Rattle.tr_chunk.specs.Files.{file_name, packets_text}
use Rattle.tr_export.specs.Making.{Makings}
use Rattle.tr_export.specs.Paths.{folder_of, path_of}
use Rattle.tr_export.specs.declared.made.Made.TheVariants.{Folder, File}
use Rattle.tr_metadata.specs.Metadata.{metadata_with}
use Rattle.tr_session_book.specs.BookSteps.{channel_of}
use Rattle.tr_session.specs.Session.{SessionOf}
use Rattle.tr_session.specs.Sizes.{archive_released}
use Rattle.tr_session_book.specs.declared.archive.Archive.{Archive}
use Rattle.tr_stream.specs.Rules.{by_state}
use Rattle.tr_stream.specs.State.{StreamState}

-- a part's packets, in the file with the name of its stream's channel and number
abbrev pub part_file : List ℕ → ℕ → Option (List ℕ) → Option PartState → Makings
part_file folder i None part = []
part_file folder i (Some channel) None = []
part_file folder i (Some channel) (Some part) =
    File (path_of folder (file_name channel i)) (packets_text part.packets) ∷ []

-- one file is made and nothing else
abbrev pub IsOneFile : Makings → Type 0
IsOneFile made = (path : List ℕ) × (text : List ℕ) × (made ≡ File path text ∷ [])

-- stream i's part of chunk id
abbrev pub part_of_stream : ℕ → ℕ → SessionOf StreamState → Option PartState
part_of_stream i id s = option_and_then (λ (stream : StreamState). part_at id stream.parts) (slice_get s.streams i)

-- what stream i has in chunk id
abbrev pub stream_file : List ℕ → ℕ → SessionOf StreamState → ℕ → Makings
stream_file folder id s i = part_file folder i (channel_of i s.book) (part_of_stream i id s)

-- what the first n streams have
abbrev pub stream_files : List ℕ → ℕ → SessionOf StreamState → ℕ → Makings
stream_files folder id s zero = []
stream_files folder id s (suc i) = stream_files folder id s i ++ stream_file folder id s i

-- the metadata file after them, with the events that are declared
abbrev pub metadata_file : List ℕ → SessionOf StreamState → Makings
metadata_file folder s = File (path_of folder (codes "metadata")) (metadata_with s.book.events s.book.uuid) ∷ []

-- the trace chunk of this number in a folder: the folder, a file for each stream, and last the metadata
abbrev pub chunk_made : List ℕ → ℕ → SessionOf StreamState → Makings
chunk_made folder id s = Folder folder ∷ (stream_files folder id s (length s.streams) ++ metadata_file folder s)

-- an archive in the folder of its name; none if the part of any stream is released
abbrev pub archive_made : List ℕ → List ℕ → SessionOf StreamState → Archive → Makings
archive_made dir name s a =
    if archive_released by_state a.id s == 0 then
    chunk_made (folder_of dir name (archive_name_text a.begin a.end s.book.offset a.id)) a.id s
    else []

-- each archive in order that has all its parts, without a pending one and the current chunk
abbrev pub archives_made : List ℕ → List ℕ → SessionOf StreamState → Makings
archives_made dir name s = flat_map (archive_made dir name s) s.book.archives
