-- Which answers C asks for, by their numbers.
use Rattle.std.specs.Prelude.{ℕ, ◌==◌, List, Option, Some, None, if◌then◌else◌}
use Rattle.tr_border.specs.declared.codes.TheConstants.{K_NO_SESSION, SAYS_BAD_LINE, SAYS_NO_ARCHIVES, SAYS_SCHEDULE_OFF, SAYS_SCHEDULE_SET, SAYS_SCRIPT_ONLY, SAYS_STARTED, SAYS_STOPPED}
use Rattle.tr_replies.specs.Archives.{no_archives}
use Rattle.tr_replies.specs.OneLine.{bad_line_text, schedule_set_text, schedule_text, script_only_text, started_text, stopped_text}
use Rattle.tr_replies.specs.declared.line_fault.LineFault.{LineFault}
use Rattle.tr_replies.specs.declared.line_fault.LineFault.TheVariants.{NoSession, Schedule, Session}
use Rattle.tr_schedule.specs.declared.faults.ScheduleFault.TheVariants as schedule
use Rattle.tr_session_book.specs.declared.faults.SessionFault.TheVariants as session

-- the answer of this number, without its newline
abbrev pub said_text : ℕ → Option (List ℕ)
said_text n =
    if n == SAYS_BAD_LINE then Some bad_line_text
    else (if n == SAYS_SCRIPT_ONLY then Some script_only_text
    else (if n == SAYS_STARTED then Some (started_text tt)
    else (if n == SAYS_STOPPED then Some (stopped_text tt)
    else (if n == SAYS_SCHEDULE_SET then Some schedule_set_text
    else (if n == SAYS_SCHEDULE_OFF then Some (schedule_text None)
    else (if n == SAYS_NO_ARCHIVES then Some no_archives else None))))))

-- the fault that has this number
abbrev pub fault_numbered : ℕ → Option LineFault
fault_numbered n =
    if n == K_NO_SESSION then Some NoSession
    else (if n == 1 then Some (Session session.NoMemory)
    else (if n == 101 then Some (Session session.SnapshotMode)
    else (if n == 102 then Some (Session session.NotSnapshotMode)
    else (if n == 103 then Some (Session session.NeverStarted)
    else (if n == 104 then Some (Session session.RotationPending)
    else (if n == 105 then Some (Session session.AlreadyRotated)
    else (if n == 106 then Some (Session session.AlreadyActive)
    else (if n == 107 then Some (Session session.NotActive)
    else (if n == 108 then Some (Session session.NoStream)
    else (if n == 109 then Some (Session session.DiscardInSnapshot)
    else (if n == 110 then Some (Session session.AlreadyStarted)
    else (if n == 111 then Some (Session session.BadGeometry)
    else (if n == 112 then Some (Session session.TooMany)
    else (if n == 113 then Some (Session session.NotPending)
    else (if n == 114 then Some (Session session.CutMissing)
    else (if n == 115 then Some (Session session.NameTaken)
    else (if n == 117 then Some (Session session.NoChannel)
    else (if n == 118 then Some (Session session.NoArchive)
    else (if n == 119 then Some (Session session.Released)
    else (if n == 120 then Some (Session session.Misplaced)
    else (if n == 701 then Some (Schedule schedule.ZeroPeriod)
    else (if n == 702 then Some (Schedule schedule.ZeroSize) else None))))))))))))))))))))))
