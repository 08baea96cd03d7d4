use Rattle.std.proofs.Common.{Some, ap, inr, sym, ◌∙◌, ◌≡◌}
use Rattle.tr_console.proofs.CallLemmas.{called, left, on_err}
use Rattle.tr_console.proofs.console.Console.schedule.Goals as goal
use Rattle.tr_console.specs.World.{session_named, with_session}
use Rattle.tr_console.specs.commands.Schedule.{after_schedule_asked, schedule_asked, schedule_set}
use Rattle.tr_replies.specs.OneLine.{schedule_text}
use Rattle.tr_session_book.specs.BookSteps.{book_schedule_answer}

pub returns-clause-done : goal.returns-clause-done
returns-clause-done g c =
    let w = c.args.self.now in
    let name = c.args.session.now in
    let s = c.in-Some.found.now in
    let found : session_named name w ≡ Some s = sym c.in-Some.ensures.found in
    let t = c.set_schedule.new.session in
    let said = c.schedule_reply.ensures in
    let asked = schedule_asked c.args.every c.args.size in
    called c.schedule_reply.result w name schedule_text (λ u. schedule_set (book_schedule_answer u.book) asked)
    (after_schedule_asked asked) s t c.set_schedule.result found
    (λ _. (
      c.set_schedule.ensures.answer ∙ ap (schedule_set (book_schedule_answer s.book)) c.schedule_for-asked.ensures,
      c.set_schedule.ensures.after ∙ ap (λ x. after_schedule_asked x s) c.schedule_for-asked.ensures,
    ))
    said.text said.refused said.memory

pub returns-clause-failed : goal.returns-clause-failed
returns-clause-failed g c =
    let w = c.args.self.now in
    let name = c.args.session.now in
    let s = c.in-Some.found.now in
    let found : session_named name w ≡ Some s = sym c.in-Some.ensures.found in
    let t = c.set_schedule.new.session in
    let asked = schedule_asked c.args.every c.args.size in
    on_err c.schedule_reply.result (left w name schedule_text (after_schedule_asked asked) s t found
    (with_session name w t ≡ w) (λ u. schedule_set (book_schedule_answer u.book) asked)
    (inr (c.set_schedule.ensures.after ∙ ap (λ x. after_schedule_asked x s) c.schedule_for-asked.ensures)))
