-- Why calls are refused, as answers print it.
use Rattle.std.specs.Prelude.{ℕ, Bool, true, false, List, Result, Ok, Err}
use Rattle.tr_session.specs.declared.events.Answer.{Answer}
use Rattle.tr_session.specs.declared.events.Answer.TheVariants as answer
use Rattle.tr_session_book.specs.declared.faults.SessionFault.{SessionFault}
use Rattle.tr_session.specs.declared.faults.StepFault.{StepFault}
use Rattle.tr_session.specs.declared.faults.StepFault.TheVariants.{Session, Offer, Take, Cut}
use Rattle.tr_stream.specs.declared.answers.CutFault.TheVariants as cut
use Rattle.tr_stream.specs.declared.answers.TakeFault.TheVariants as take
use Rattle.tr_session_book.specs.Faults.{session_fault_code, session_fault_name, session_wants_memory}
use Rattle.tr_stream.specs.Faults.{cut_fault_code, cut_fault_name, offer_fault_code, offer_fault_name, take_fault_code, take_fault_name}

abbrev pub step_fault_code : StepFault → List ℕ
step_fault_code (Session fault) = session_fault_code fault
step_fault_code (Offer fault) = offer_fault_code fault
step_fault_code (Take fault) = take_fault_code fault
step_fault_code (Cut fault) = cut_fault_code fault

abbrev pub step_fault_name : StepFault → List ℕ
step_fault_name (Session fault) = session_fault_name fault
step_fault_name (Offer fault) = offer_fault_name fault
step_fault_name (Take fault) = take_fault_name fault
step_fault_name (Cut fault) = cut_fault_name fault

-- an allocation failed
abbrev pub step_wants_memory : StepFault → Bool
step_wants_memory (Session fault) = session_wants_memory fault
step_wants_memory (Take take.NoMemory) = true
step_wants_memory (Cut cut.NoMemory) = true
step_wants_memory other = false

abbrev pub step_refused_memory : {R : Type 0} → Result R StepFault → Bool
step_refused_memory (Ok r) = false
step_refused_memory (Err fault) = step_wants_memory fault

abbrev pub session_refused_memory : {R : Type 0} → Result R SessionFault → Bool
session_refused_memory (Ok r) = false
session_refused_memory (Err fault) = session_wants_memory fault

abbrev pub answer_wants_memory : {A : Type 0} → Answer A → Bool
answer_wants_memory (answer.Offer result) = step_refused_memory result
answer_wants_memory (answer.Take result) = step_refused_memory result
answer_wants_memory (answer.Cut result) = step_refused_memory result
answer_wants_memory (answer.Clear result) = session_refused_memory result
answer_wants_memory (answer.Release result) = session_refused_memory result
answer_wants_memory (answer.Snap result) = session_refused_memory result
answer_wants_memory (answer.Start result) = session_refused_memory result
answer_wants_memory (answer.Stop result) = session_refused_memory result
answer_wants_memory (answer.SessionStart result) = session_refused_memory result
answer_wants_memory (answer.SessionStop result) = session_refused_memory result
answer_wants_memory (answer.RotateBegin result) = session_refused_memory result
answer_wants_memory (answer.RotateFinish result) = session_refused_memory result
