-- `schedule` by what streams hold, and by their histories.
use Rattle.std.proofs.Common.{Err, Ok, Option, Result, ap, ℕ}
use Rattle.tr_console.proofs.WorldAgreement.{StepsAgree, answered-agree, at-agree}
use Rattle.tr_console.specs.Agreement.{WorldsAgree}
use Rattle.tr_replies.specs.Text.{Text}
use Rattle.tr_console.specs.World.{World}
use Rattle.tr_console.specs.commands.Schedule.{after_schedule_asked, schedule_asked, schedule_set, schedule_step}
use Rattle.tr_replies.specs.OneLine.{schedule_text}
use Rattle.tr_schedule.specs.Schedules.{ScheduleState}
use Rattle.tr_schedule.specs.declared.faults.ScheduleFault.{ScheduleFault}
use Rattle.tr_session.proofs.Agreement.{agree-scheduled}
use Rattle.tr_session.specs.Agreement.{SessionsAgree}
use Rattle.tr_session.specs.Session.{SessionOf}
use Rattle.tr_session_book.specs.Book.{SessionBookState}
use Rattle.tr_session_book.specs.BookSteps.{book_schedule_answer}
use Rattle.tr_stream.specs.Rules.{Traced}
use Rattle.tr_stream.specs.State.{StreamState}

pub schedule-agree : (v : World StreamState) (w : World Traced) (name : Text) (every size : Option ℕ) → WorldsAgree v w
    → StepsAgree (schedule_step v name every size) (schedule_step w name every size)
schedule-agree v w name every size is = at-agree v w name _ _ is (λ a b agree.
    answered-agree v w name schedule_text _ _ (after_schedule_asked (schedule_asked every size) a)
    (after_schedule_asked (schedule_asked every size) b) is
    (ap (λ (c : SessionBookState). schedule_set (book_schedule_answer c) (schedule_asked every size)) agree.book)
    (agree-asked (schedule_asked every size) a b agree))
  where
    agree-asked : (asked : Result (Option ScheduleState) ScheduleFault) (a : SessionOf StreamState) (b : SessionOf Traced)
        → SessionsAgree a b → SessionsAgree (after_schedule_asked asked a) (after_schedule_asked asked b)
    agree-asked (Err why) a b agree = agree
    agree-asked (Ok schedule) a b agree = agree-scheduled a b agree schedule
