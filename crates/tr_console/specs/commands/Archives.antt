-- `archives`: the archives of a session, a line for each.
use Rattle.std.specs.Prelude.{List, [], false, length, ◌++◌, ◌∷◌}
use Rattle.tr_console.specs.Steps.{Step, session_step}
use Rattle.tr_console.specs.World.{World}
use Rattle.tr_replies.specs.Archives.{archive_row, no_archives}
use Rattle.tr_replies.specs.Text.{Text}
use Rattle.tr_session.specs.Session.{SessionOf}
use Rattle.tr_session.specs.Sizes.{archive_bytes, archive_packets, archive_released}
use Rattle.tr_session_book.specs.declared.archive.Archive.{Archive}
use Rattle.tr_stream.specs.Rules.{StreamRules}

-- the line of an archive: how many packets it got over all streams, how many bytes, and whether it was released
abbrev pub archive_line : {S : Type 0} → StreamRules S → SessionOf S → Archive → Text
archive_line rules s archive =
    archive_row s.book.offset archive (archive_packets rules archive.id s) (archive_bytes rules archive.id s) (length s.streams)
    (archive_released rules archive.id s)

-- the lines of archives, each with its newline
abbrev pub archive_lines : {S : Type 0} → StreamRules S → SessionOf S → List Archive → Text
archive_lines rules s [] = []
archive_lines rules s (archive ∷ archives) = archive_line rules s archive ++ (10 ∷ archive_lines rules s archives)

-- a line for each archive, or one that says that there is none
abbrev pub lines_or_none : {S : Type 0} → StreamRules S → SessionOf S → List Archive → Text
lines_or_none rules s [] = no_archives ++ 10 ∷ []
lines_or_none rules s (archive ∷ archives) = archive_lines rules s (archive ∷ archives)

-- the answer about archives, with its newlines
abbrev pub archives_text : {S : Type 0} → StreamRules S → SessionOf S → Text
archives_text rules s = lines_or_none rules s s.book.archives

abbrev pub archives_step : {S : Type 0} → StreamRules S → World S → Text → Step S
archives_step rules w name =
    session_step w name (λ s. record { world = w; text = archives_text rules s; is_refused = false })
