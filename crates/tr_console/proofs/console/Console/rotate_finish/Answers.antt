use Rattle.std.proofs.Common.{Some, ap, inr, sym, ◌∙◌, ◌≡◌}
use Rattle.tr_console.proofs.CallLemmas.{left, on_err}
use Rattle.tr_console.proofs.RotateLemmas.{called_archive}
use Rattle.tr_console.proofs.console.Console.rotate_finish.Goals as goal
use Rattle.tr_console.specs.World.{session_named, with_session}
use Rattle.tr_console.specs.commands.Rotate.{archive_named}
use Rattle.tr_replies.specs.OneLine.{archived_text}
use Rattle.tr_session.specs.Steps.{session_after_rotate_finish}
use Rattle.tr_session_book.specs.BookSteps.{book_rotate_finish_answer}

pub returns-clause-done : goal.returns-clause-done
returns-clause-done g c =
    let w = c.args.self.now in
    let name = c.args.session.now in
    let s = c.in-Some.found.now in
    let found : session_named name w ≡ Some s = sym c.in-Some.ensures.found in
    let t = c.rotate_finish.new.self in
    let said = c.archived_reply.ensures in
    called_archive w name session_after_rotate_finish s t found (λ u. book_rotate_finish_answer u.book) c.rotate_finish.result
    (λ _. (c.rotate_finish.ensures.answer, c.rotate_finish.ensures.after)) c.archived_reply.result c.archive_named.result
    c.offset-offset.result c.archive_named.ensures (c.offset-offset.ensures ∙ ap (λ b. b.offset) c.book.ensures) said.text said.refused said.memory

pub returns-clause-failed : goal.returns-clause-failed
returns-clause-failed g c =
    let w = c.args.self.now in
    let name = c.args.session.now in
    let s = c.in-Some.found.now in
    let found : session_named name w ≡ Some s = sym c.in-Some.ensures.found in
    let t = c.rotate_finish.new.self in
    on_err c.archived_reply.result (left w name archived_text session_after_rotate_finish s t found
    (with_session name w t ≡ w) (λ u. archive_named u.book.offset (book_rotate_finish_answer u.book))
    (inr c.rotate_finish.ensures.after))
