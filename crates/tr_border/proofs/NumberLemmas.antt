-- The numbers of refusals, back to these.
use Rattle.std.proofs.Common.{◌≡◌, ◌∙◌, ap, refl, sym, ℕ, Some}
use Rattle.tr_border.specs.Codes.{code_number}
use Rattle.tr_border.specs.Replies.{fault_numbered}
use Rattle.tr_replies.specs.declared.line_fault.LineFault.TheVariants.{Schedule, Session}
use Rattle.tr_schedule.specs.Schedules.{schedule_fault_code}
use Rattle.tr_schedule.specs.declared.faults.ScheduleFault.{ScheduleFault}
use Rattle.tr_schedule.specs.declared.faults.ScheduleFault.TheVariants as schedule
use Rattle.tr_session_book.specs.Faults.{session_fault_code}
use Rattle.tr_session_book.specs.declared.faults.SessionFault.{SessionFault}
use Rattle.tr_session_book.specs.declared.faults.SessionFault.TheVariants as session

of_session : (f : SessionFault) → fault_numbered (code_number (session_fault_code f)) ≡ Some (Session f)
of_session session.SnapshotMode = refl
of_session session.NotSnapshotMode = refl
of_session session.NeverStarted = refl
of_session session.RotationPending = refl
of_session session.AlreadyRotated = refl
of_session session.AlreadyActive = refl
of_session session.NotActive = refl
of_session session.NoStream = refl
of_session session.DiscardInSnapshot = refl
of_session session.AlreadyStarted = refl
of_session session.BadGeometry = refl
of_session session.TooMany = refl
of_session session.NotPending = refl
of_session session.CutMissing = refl
of_session session.NameTaken = refl
of_session session.NoMemory = refl
of_session session.NoChannel = refl
of_session session.NoArchive = refl
of_session session.Released = refl
of_session session.Misplaced = refl

of_schedule : (f : ScheduleFault) → fault_numbered (code_number (schedule_fault_code f)) ≡ Some (Schedule f)
of_schedule schedule.ZeroPeriod = refl
of_schedule schedule.ZeroSize = refl

pub session_back : (n : ℕ) (f : SessionFault) → code_number (session_fault_code f) ≡ n → fault_numbered n ≡ Some (Session f)
session_back n f e = ap fault_numbered (sym e) ∙ of_session f

pub schedule_back : (n : ℕ) (f : ScheduleFault) → code_number (schedule_fault_code f) ≡ n → fault_numbered n ≡ Some (Schedule f)
schedule_back n f e = ap fault_numbered (sym e) ∙ of_schedule f
