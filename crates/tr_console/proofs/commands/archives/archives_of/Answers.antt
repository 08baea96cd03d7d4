use Rattle.std.proofs.Common.{◌≡◌, ◌∙◌, ◌++◌, [], Some, true≢false, List, ap, sym, refl, arith, length}
use Rattle.std.proofs.lemmas.Option.{slice_get_read}
use Rattle.std.specs.Prelude.{◌==◌, slice_get}
use Rattle.std.specs.String.{string_bytes}
use Rattle.tr_replies.specs.Text.{Text}
use Rattle.tr_console.proofs.ArchiveLemmas.{goes_on, ends, told}
use Rattle.tr_console.proofs.commands.archives.archives_of.Goals as goal
use Rattle.tr_console.specs.commands.Archives.{archive_lines, lines_or_none}
use Rattle.tr_session_book.specs.Book.{SessionBookState}
use Rattle.tr_session_book.specs.declared.archive.Archive.{Archive}
use Rattle.tr_stream.specs.Rules.{by_state}

pub archives-init : goal.archives-init
archives-init g c = ap (λ (t : Text). t ++ archive_lines by_state c.args.session.now c.archives-archives.result.now) c.new-text.ensures.bytes

pub archives-preserved : goal.archives-preserved
archives-preserved g c =
    let s = c.args.session.now in
    let archives = c.archives-archives.result.now in
    let i = c.archives.archive-index in
    let got : slice_get archives i ≡ Some c.archive-item.result =
    slice_get_read archives _ i c.archive-item.result refl c.archives-test.true c.archive-item.is in
    goes_on s archives i c.archive-item.result (string_bytes c.archives.text) (string_bytes c.push_archive_of.new.text)
    (archive_lines by_state s archives) got c.archives.invariant c.in_ok-push_archive_of.ensures

pub returns : goal.returns
returns g c =
    let s = c.args.session.now in
    let archives = c.archives-archives.result.now in
    let same : archives ≡ s.book.archives = c.archives-archives.ensures.value ∙ ap (λ (b : SessionBookState). b.archives) c.book.ensures in
    let some : archives ≡ [] → ⊥ = λ e. true≢false (sym (ap (λ (xs : List Archive). length xs == 0) e) ∙ sym c.if-is_empty.ensures) in
    let text = ends s archives c.archives.archive-index (string_bytes c.archives.text) (archive_lines by_state s archives)
    (omega arith) c.archives.invariant in
    text ∙ told s archives some ∙ ap (lines_or_none by_state s) same
