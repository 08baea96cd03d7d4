use Rattle.std.proofs.Common.{Some, sym, ◌≡◌}
use Rattle.tr_console.proofs.CallLemmas.{called_session, left_session, on_err, unchanged}
use Rattle.tr_console.proofs.console.Console.rotate_begin.Goals as goal
use Rattle.tr_console.specs.World.{session_named, with_session}
use Rattle.tr_console.specs.commands.Rotate.{rotating_text}
use Rattle.tr_session.specs.Steps.{session_after_rotate_begin}
use Rattle.tr_session_book.specs.BookSteps.{book_rotate_begin_answer}

pub returns-clause-done : goal.returns-clause-done
returns-clause-done g c =
    let w = c.args.self.now in
    let name = c.args.session.now in
    let s = c.in-Some.found.now in
    let found : session_named name w ≡ Some s = sym c.in-Some.ensures.found in
    let t = c.rotate_begin.new.self in
    let said = c.rotating_reply.ensures in
    called_session w name rotating_text (session_after_rotate_begin c.args.moment) s t found c.rotating_reply.result c.from_session.result said.text said.refused said.memory
    (λ u. book_rotate_begin_answer u.book) c.rotate_begin.result c.from_session.ensures (c.rotate_begin.ensures.value)

pub returns-clause-failed : goal.returns-clause-failed
returns-clause-failed g c =
    let w = c.args.self.now in
    let name = c.args.session.now in
    let s = c.in-Some.found.now in
    let found : session_named name w ≡ Some s = sym c.in-Some.ensures.found in
    let t = c.rotate_begin.new.self in
    on_err c.rotating_reply.result (left_session w name rotating_text (session_after_rotate_begin c.args.moment) s t found (with_session name w t ≡ w)
    (λ u. book_rotate_begin_answer u.book) c.rotate_begin.result (c.rotate_begin.ensures.value) (λ e. unchanged w name s t found (c.rotate_begin.ensures.no_memory e)))
