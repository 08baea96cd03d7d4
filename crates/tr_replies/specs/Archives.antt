-- The line of an archive.
use Rattle.std.specs.Fmt.{decimal}
use Rattle.std.specs.Prelude.{[], codes, if◌then◌else◌, not, ℕ, ℤ, ◌++◌, ◌==◌, ◌&&◌, ◌∷◌}
use Rattle.tr_replies.specs.OneLine.{archive_text}
use Rattle.tr_replies.specs.Text.{Text}
use Rattle.tr_session_book.specs.declared.archive.Archive.{Archive}

-- what the line of an archive ends with, by how many streams there are and of how many its part is released: of all, if there
-- are any
abbrev pub released_mark : ℕ → ℕ → Text
released_mark streams released = if not (streams == 0) && (released == streams) then codes " released" else []

-- the line of an archive that got so many packets and bytes over all streams, of so many streams, and whose part of so many of
-- these is released
abbrev pub archive_row : ℤ → Archive → (packets bytes streams released : ℕ) → Text
archive_row offset archive packets bytes streams released =
    archive_text offset archive
    ++ (codes " packets " ++ (decimal packets
    ++ (codes " bytes " ++ (decimal bytes
    ++ released_mark streams released))))

-- the answer if there is no archive
abbrev pub no_archives : Text
no_archives = codes "none"
