-- `schedule`: when rotations are due.
use Rattle.std.specs.Prelude.{Err, None, Ok, Option, Result, Some, ℕ}
use Rattle.tr_console.specs.Steps.{Step, call_step, session_step}
use Rattle.tr_replies.specs.OneLine.{schedule_text}
use Rattle.tr_replies.specs.Text.{Text}
use Rattle.tr_console.specs.World.{World}
use Rattle.tr_replies.specs.declared.line_fault.LineFault.TheVariants.{Schedule, Session}
use Rattle.tr_replies.specs.declared.line_fault.LineFault.{LineFault}
use Rattle.tr_schedule.specs.Schedules.{ScheduleState, schedule_of}
use Rattle.tr_schedule.specs.declared.faults.ScheduleFault.{ScheduleFault}
use Rattle.tr_session.specs.Session.{SessionOf}
use Rattle.tr_session_book.specs.BookSteps.{book_after_schedule, book_schedule_answer}
use Rattle.tr_session_book.specs.declared.faults.SessionFault.{SessionFault}

-- the schedule that a line asks for, or why there is no such schedule; no schedule if the line says neither
abbrev pub as_schedule : Result ScheduleState ScheduleFault → Result (Option ScheduleState) ScheduleFault
as_schedule (Ok schedule) = Ok (Some schedule)
as_schedule (Err why) = Err why

abbrev pub schedule_asked : Option ℕ → Option ℕ → Result (Option ScheduleState) ScheduleFault
schedule_asked None None = Ok None
schedule_asked None (Some size) = as_schedule (schedule_of None (Some size))
schedule_asked (Some every) size = as_schedule (schedule_of (Some every) size)

-- a schedule is set, unless the session refuses that, which comes first, or there is no such schedule
abbrev pub schedule_set : Result Unit SessionFault → Result (Option ScheduleState) ScheduleFault
    → Result (Option ScheduleState) LineFault
schedule_set (Err why) asked = Err (Session why)
schedule_set (Ok done) (Err why) = Err (Schedule why)
schedule_set (Ok done) (Ok schedule) = Ok schedule

abbrev pub after_schedule_asked : {S : Type 0} → Result (Option ScheduleState) ScheduleFault → SessionOf S → SessionOf S
after_schedule_asked (Err why) s = s
after_schedule_asked (Ok schedule) s = record s { book = book_after_schedule schedule s.book }

abbrev pub schedule_step : {S : Type 0} → World S → Text → Option ℕ → Option ℕ → Step S
schedule_step w name every size =
    session_step w name (λ s.
    let asked = schedule_asked every size in
    call_step w name schedule_text (schedule_set (book_schedule_answer s.book) asked) (after_schedule_asked asked s))
