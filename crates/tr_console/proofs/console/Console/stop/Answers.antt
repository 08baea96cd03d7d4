use Rattle.std.proofs.Common.{Some, codes, inr, refl, sym, ◌≡◌}
use Rattle.tr_console.proofs.CallLemmas.{called_session, done_text, left, on_err}
use Rattle.tr_console.proofs.console.Console.stop.Goals as goal
use Rattle.tr_replies.specs.LineFaults.{from_session}
use Rattle.tr_console.specs.World.{session_named, with_session}
use Rattle.tr_replies.specs.OneLine.{stopped_text}
use Rattle.tr_session.specs.Steps.{session_after_stop}
use Rattle.tr_session_book.specs.BookSteps.{book_stop_answer}
use Rattle.tr_stream.specs.Rules.{by_state}

pub returns-clause-done : goal.returns-clause-done
returns-clause-done g c =
    let w = c.args.self.now in
    let name = c.args.session.now in
    let s = c.in-Some.found.now in
    let found : session_named name w ≡ Some s = sym c.in-Some.ensures.found in
    let t = c.stop.new.self in
    let said = c.done_reply.ensures in
    let text = done_text c.done_reply.result _ (codes "stopped") c.from_session.result refl said.text in
    called_session w name stopped_text (session_after_stop by_state) s t found c.done_reply.result c.from_session.result text said.refused said.memory
    (λ u. book_stop_answer u.book) c.stop.result c.from_session.ensures (λ _. (c.stop.ensures.answer, c.stop.ensures.after))

pub returns-clause-failed : goal.returns-clause-failed
returns-clause-failed g c =
    let w = c.args.self.now in
    let name = c.args.session.now in
    let s = c.in-Some.found.now in
    let found : session_named name w ≡ Some s = sym c.in-Some.ensures.found in
    let t = c.stop.new.self in
    on_err c.done_reply.result (left w name stopped_text (session_after_stop by_state) s t found (with_session name w t ≡ w)
    (λ u. from_session (book_stop_answer u.book)) (inr c.stop.ensures.after))
