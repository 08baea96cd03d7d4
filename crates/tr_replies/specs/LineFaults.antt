-- Why a line is refused, as its answer prints it.
use Rattle.std.specs.Prelude.{◌≡◌, ℕ, Bool, false, List, codes, Result, Ok, Err}
use Rattle.tr_replies.specs.declared.line_fault.LineFault.{LineFault}
use Rattle.tr_replies.specs.declared.line_fault.LineFault.TheVariants.{NoSession, BadUuid, BadName, Schedule, Session, Step}
use Rattle.tr_schedule.specs.Schedules.{schedule_fault_code, schedule_fault_name}
use Rattle.tr_session.specs.Faults.{step_fault_code, step_fault_name, step_wants_memory}
use Rattle.tr_session.specs.declared.faults.StepFault.{StepFault}
use Rattle.tr_session_book.specs.Faults.{session_fault_code, session_fault_name, session_wants_memory}
use Rattle.tr_session_book.specs.declared.faults.SessionFault.{SessionFault}

abbrev pub line_fault_code : LineFault → List ℕ
line_fault_code NoSession = codes "K1"
line_fault_code BadUuid = codes "K2"
line_fault_code BadName = codes "K3"
line_fault_code (Schedule fault) = schedule_fault_code fault
line_fault_code (Session fault) = session_fault_code fault
line_fault_code (Step fault) = step_fault_code fault

abbrev pub line_fault_name : LineFault → List ℕ
line_fault_name NoSession = codes "NoSession"
line_fault_name BadUuid = codes "BadUuid"
line_fault_name BadName = codes "BadName"
line_fault_name (Schedule fault) = schedule_fault_name fault
line_fault_name (Session fault) = session_fault_name fault
line_fault_name (Step fault) = step_fault_name fault

-- an allocation failed
abbrev pub wants_memory : LineFault → Bool
wants_memory (Session fault) = session_wants_memory fault
wants_memory (Step fault) = step_wants_memory fault
wants_memory other = false

-- no allocation failed
abbrev pub HasMemory : {R : Type 0} → Result R LineFault → Type 0
HasMemory (Ok r) = Unit {0}
HasMemory (Err why) = wants_memory why ≡ false

-- a refusal by a session, or of a step, as the line's
abbrev pub from_session : {R : Type 0} → Result R SessionFault → Result R LineFault
from_session (Ok r) = Ok r
from_session (Err why) = Err (Session why)

abbrev pub from_step : {R : Type 0} → Result R StepFault → Result R LineFault
from_step (Ok r) = Ok r
from_step (Err why) = Err (Step why)
