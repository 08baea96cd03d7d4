-- `archives` by what streams hold, and by their histories.
use Rattle.std.proofs.Common.{List, [], ap, codes, length, refl, ℕ, ℤ, ◌++◌, ◌∙◌, ◌∷◌, ◌≡◌}
use Rattle.std.specs.Fmt.{decimal}
use Rattle.tr_console.proofs.WorldAgreement.{StepsAgree, at-agree}
use Rattle.tr_console.specs.Agreement.{WorldsAgree}
use Rattle.tr_replies.specs.Text.{Text}
use Rattle.tr_console.specs.World.{World}
use Rattle.tr_console.specs.commands.Archives.{archive_line, archive_lines, archives_step, archives_text, lines_or_none}
use Rattle.tr_replies.specs.Archives.{released_mark}
use Rattle.tr_replies.specs.OneLine.{archive_text}
use Rattle.tr_session.proofs.Agreement.{same-archive_bytes, same-archive_packets, same-archive_released, same-length}
use Rattle.tr_session.specs.Agreement.{SessionsAgree}
use Rattle.tr_session.specs.Session.{SessionOf}
use Rattle.tr_session.specs.Sizes.{archive_bytes, archive_packets, archive_released}
use Rattle.tr_session_book.specs.declared.archive.Archive.{Archive}
use Rattle.tr_stream.specs.Rules.{Traced, by_history, by_state}
use Rattle.tr_stream.specs.State.{StreamState}

same-mark : (a : SessionOf StreamState) (b : SessionOf Traced) (id : ℕ) → SessionsAgree a b
    → released_mark (length a.streams) (archive_released by_state id a) ≡ released_mark (length b.streams) (archive_released by_history id b)
same-mark a b id is =
    ap (λ n. released_mark n (archive_released by_state id a)) (same-length a.streams b.streams is.streams)
    ∙ ap (released_mark (length b.streams)) (same-archive_released a b is id)

same-archive : (a : SessionOf StreamState) (b : SessionOf Traced) (archive : Archive) → SessionsAgree a b
    → archive_line by_state a archive ≡ archive_line by_history b archive
same-archive a b archive is =
    let line : ℤ → ℕ → ℕ → Text → Text =
    λ offset packets bytes mark. archive_text offset archive
    ++ (codes " packets " ++ (decimal packets ++ (codes " bytes " ++ (decimal bytes ++ mark)))) in
    let mark = released_mark (length a.streams) (archive_released by_state archive.id a) in
    ap (λ k. line k.offset (archive_packets by_state archive.id a) (archive_bytes by_state archive.id a) mark) is.book
    ∙ ap (λ n. line b.book.offset n (archive_bytes by_state archive.id a) mark) (same-archive_packets a b is archive.id)
    ∙ ap (λ n. line b.book.offset (archive_packets by_history archive.id b) n mark) (same-archive_bytes a b is archive.id)
    ∙ ap (line b.book.offset (archive_packets by_history archive.id b) (archive_bytes by_history archive.id b))
    (same-mark a b archive.id is)

same-lines : (a : SessionOf StreamState) (b : SessionOf Traced) (archives : List Archive) → SessionsAgree a b
    → archive_lines by_state a archives ≡ archive_lines by_history b archives
same-lines a b [] is = refl
same-lines a b (archive ∷ archives) is =
    ap (λ line. line ++ (10 ∷ archive_lines by_state a archives)) (same-archive a b archive is)
    ∙ ap (λ lines. archive_line by_history b archive ++ (10 ∷ lines)) (same-lines a b archives is)

same-lines_or_none : (a : SessionOf StreamState) (b : SessionOf Traced) (archives : List Archive) → SessionsAgree a b
    → lines_or_none by_state a archives ≡ lines_or_none by_history b archives
same-lines_or_none a b [] is = refl
same-lines_or_none a b (archive ∷ archives) is = same-lines a b (archive ∷ archives) is

same-archives : (a : SessionOf StreamState) (b : SessionOf Traced) → SessionsAgree a b → archives_text by_state a ≡ archives_text by_history b
same-archives a b is = same-lines_or_none a b a.book.archives is ∙ ap (λ k. lines_or_none by_history b k.archives) is.book

pub archives-agree : (v : World StreamState) (w : World Traced) (name : Text) → WorldsAgree v w
    → StepsAgree (archives_step by_state v name) (archives_step by_history w name)
archives-agree v w name is = at-agree v w name _ _ is (λ a b agree. record { world = is; text = same-archives a b agree; is_refused = refl })
