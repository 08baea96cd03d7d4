-- A session that is written, released and written on is whole to a survey.
use Rattle.std.proofs.Common.{◌≡◌, ◌≢◌, ◌∙◌, ◌≤◌, ◌^◌, ℕ, Bool, true, sym, ap, arith, List, [], ◌∷◌, length, Some}
use Rattle.std.specs.List.{last_or}
use Rattle.tr_export.specs.Archives.{archives_made}
use Rattle.tr_folders.specs.Tree.{Tree}
use Rattle.tr_recorded.proofs.SessionLemmas.{IsReadSo, whole-recorded}
use Rattle.tr_recorded.proofs.AlikeLemmas.{alike-shows}
use Rattle.tr_recorded.proofs.RestoredSessionLemmas.{as-many, own-archives, own-recorded, own-streams}
use Rattle.tr_recorded.proofs.TimeLemmas.{book-within}
use Rattle.tr_recorded.proofs.WrittenLemmas.{all-end}
use Rattle.tr_recorded.specs.Made.{Shows}
use Rattle.tr_recorded.specs.Recorded.{HasItsArchives, session_recorded_text}
use Rattle.tr_recorded.specs.Written.{AreWritten, IsSession, all_made, all_restored}
use Rattle.tr_session.specs.Session.{HasItsStreams, SessionOf}
use Rattle.tr_session_book.specs.BookSteps.{IsBook, archive_pending}
use Rattle.tr_stream.specs.State.{StreamState}
use Rattle.tr_survey.specs.Metadata.{IsShort}
use Rattle.tr_survey.specs.Sessions.{survey_of}
use Rattle.tr_survey.specs.Told.{told}
use Rattle.tr_survey.specs.declared.faults.Surveyed.TheVariants.{Faults}
use Rattle.tr_terms.specs.Names.{is_name}
use Rattle.tr_terms.specs.Offsets.{IsOffset}
use Rattle.tr_terms.specs.declared.limits.TheConstants.{LAST_MOMENT, MOST_STREAMS}

pub whole-again : (now : SessionOf StreamState) → IsBook now.book → now.book.begin ≤ LAST_MOMENT → IsOffset now.book.offset
    → (IsShort now.book.events now.book.uuid → IsReadSo now) → length now.book.archives ≤ 2 ^ 64 → length now.streams ≤ MOST_STREAMS
    → HasItsStreams now
    → (asked : Bool) (t : Tree) (dir name : List ℕ) (first : SessionOf StreamState) (more : List (SessionOf StreamState))
    → last_or (Some first) more ≡ Some now → now.book.archives ≢ [] → is_name name ≡ true → IsSession first → HasItsArchives first
    → AreWritten first more → IsShort now.book.events now.book.uuid → Shows t dir (all_made dir name (first ∷ more))
    → survey_of asked t dir ≡ told (session_recorded_text asked name (all_restored first more)) (Faults 0)
whole-again now book begin offset read few streams its asked t dir name first more last some named session none written short shows =
    let time = book-within now.book.archives (archive_pending now.book.pending) now.book.begin book.5.0 begin book.2.0 few in
    let e = all-end dir name now (record { own = time.0; offset = offset; few = streams }) first more session none written last in
    let r : SessionOf StreamState = record now { streams = e.streams } in
    let many = as-many (length now.book.archives) now.streams e.streams e.are in
    whole-recorded r book begin offset read few (omega (arith, many, streams)) (own-streams now e.streams e.are its)
    (own-recorded now e.streams e.are) asked t dir name named some (own-archives now e.streams e.are book.2) short
    (alike-shows t dir (all_made dir name (first ∷ more)) (archives_made dir name r) e.made shows)
    ∙ ap (λ (u : SessionOf StreamState). told (session_recorded_text asked name u) (Faults 0)) (sym e.is)
