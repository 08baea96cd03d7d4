-- The rows of a picture: a row for each stream of each session.
use Rattle.std.specs.Prelude.{ℕ, ℤ, pos, ◌∷◌, ◌+◌, List, [], map, if◌then◌else◌, string_bytes}
use Rattle.std.specs.List.{flat_map, fold}
use Rattle.tr_chunk.specs.Audit.{capped_count}
use Rattle.tr_folders.specs.Tree.{Tree}
use Rattle.tr_picture.specs.Frame.{both, no_extent}
use Rattle.tr_picture.specs.Offsets.{offset_of}
use Rattle.tr_picture.specs.Rows.{stream_row}
use Rattle.tr_picture.specs.declared.frame.Extent.{Extent}
use Rattle.tr_picture.specs.declared.frame.Frame.{Frame}
use Rattle.tr_picture.specs.declared.rows.Row.{Row}
use Rattle.tr_picture.specs.declared.sessions.Line as value
use Rattle.tr_survey.specs.Identifiers.{judged_by}
use Rattle.tr_survey.specs.Listing.{archives_of, key_of, names_at, names_in_order, streams_of}
use Rattle.tr_survey.specs.Order.{Numbered}
use Rattle.tr_survey.specs.Paths.{archives_folder}
use Rattle.tr_survey.specs.Sessions.{identity_of, namings_of}
use Rattle.tr_terms.specs.Names.{is_name}

-- a stream of a session, how far its clock is from UTC, and its row
pub record Line : Type 0 where
  pub session : List ℕ
  pub stream : Numbered
  pub offset : ℤ
  pub row : Row

abbrev pub line : List ℕ → Numbered → ℤ → Row → Line
line session stream offset row = record { session = session; stream = stream; offset = offset; row = row }

-- as contracts see it
abbrev pub seen : value.Line → Line
seen l = line (string_bytes l.session) (key_of l.stream) l.offset l.row

-- that of a stream in these archives of a folder
abbrev pub line_of : Frame → Tree → List ℕ → List ℕ → List ℕ → List Numbered → Numbered → Line
line_of f t session folder uuid archives stream = line session stream (offset_of archives) (stream_row f t folder uuid archives stream)

-- those of streams, whose packets are to be of the session's identifier
abbrev pub listed_lines : Frame → Tree → List ℕ → List ℕ → List Numbered → List Numbered → List Line
listed_lines f t session folder archives streams =
    map (line_of f t session folder (judged_by (identity_of t folder archives (namings_of t folder archives) streams)) archives) streams

abbrev pub archives_lines : Frame → Tree → List ℕ → List ℕ → List Numbered → List Line
archives_lines f t session folder archives = listed_lines f t session folder archives (streams_of t folder archives)

-- those of a session's streams
abbrev pub folder_lines : Frame → Tree → List ℕ → List ℕ → List Line
folder_lines f t session folder = if t.is_hidden folder then [] else archives_lines f t session folder (archives_of t folder (names_at t folder))

-- those of what has this name, if a session can have it
abbrev pub name_lines : Frame → Tree → List ℕ → List ℕ → List Line
name_lines f t dir name = if is_name name then folder_lines f t name (archives_folder dir name) else []

-- those below a folder, in order
abbrev pub lines_of : Frame → Tree → List ℕ → List Line
lines_of f t dir = flat_map (name_lines f t dir) (names_in_order (names_at t dir))

-- ---- what they come to

abbrev pub with_line : Extent → Line → Extent
with_line x l = both x l.row.extent

abbrev pub extent_of : List Line → Extent
extent_of = fold with_line no_extent

-- how many marks there are, before neighbours are one
abbrev pub with_marks : ℕ → Line → ℕ
with_marks n l = capped_count (capped_count (n + l.row.packets.added) + l.row.losses.added)

abbrev pub marks_of : List Line → ℕ
marks_of = fold with_marks 0

-- how many faults they have
abbrev pub with_faults : ℕ → Line → ℕ
with_faults n l = capped_count (n + l.row.tally.faults)

abbrev pub faults_in : List Line → ℕ
faults_in = fold with_faults 0

-- the first one's offset; UTC if there are none
abbrev pub first_offset : List Line → ℤ
first_offset [] = pos 0
first_offset (l ∷ lines) = l.offset
