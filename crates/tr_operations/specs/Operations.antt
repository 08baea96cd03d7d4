-- What a session's operators do at its desk, and the book that it leads to.
use Rattle.std.specs.Prelude.{◌≡◌, ◌≢◌, ◌⊎◌, ℕ, List, [], ◌∷◌, Result, Ok, Err, IsOk}
use Rattle.tr_journal.specs.Views.{all_done, done_by}
use Rattle.tr_journal.specs.declared.rule.Line.{Line}
use Rattle.tr_operations.specs.declared.step.DeskStep.{DeskStep}
use Rattle.tr_operations.specs.declared.step.DeskStep.TheVariants.{Start, Stop, Switch, SetSchedule, RotateBegin, Cut, RotateFinish, Clear, SnapshotBegin}
use Rattle.tr_session.specs.declared.faults.StepFault.TheVariants as step_fault
use Rattle.tr_session_book.specs.Book.{SessionBookState}
use Rattle.tr_session_book.specs.BookSteps.{book_after_note_cut, book_after_rotate_begin, book_after_rotate_finish, book_after_schedule, book_after_snapshot_begin, book_after_start, book_after_stop, book_clear_answer, book_rotate_begin_answer, book_rotate_finish_answer, book_schedule_answer, book_snapshot_begin_answer, book_start_answer, book_stop_answer, cut_moment, is_active}
use Rattle.tr_session_book.specs.declared.faults.SessionFault.{SessionFault}
use Rattle.tr_session_book.specs.declared.faults.SessionFault.TheVariants.{NoMemory}
use Rattle.tr_stream.specs.declared.answers.Cleared.{Cleared}

-- a stream is cleared only if the book allows it; else it is refused, by the book or by the stream
abbrev pub IsClearedIfAllowed : Result Cleared SessionFault → Result Unit SessionFault → Type 0
IsClearedIfAllowed (Ok done) allowed = IsOk allowed
IsClearedIfAllowed (Err fault) allowed = IsOk allowed ⊎ (allowed ≡ Err fault)

-- what a step makes of the session's book, and that it answers what the book answers, if no allocation failed
abbrev pub IsStepOf : DeskStep → SessionBookState → SessionBookState → Type 0
IsStepOf (Start moment answer) b c = (answer ≡ book_start_answer b) × (c ≡ book_after_start moment b)
IsStepOf (Stop answer) b c = (answer ≡ book_stop_answer b) × (c ≡ book_after_stop b)
IsStepOf (Switch stream active) b c = (active ≡ is_active b.state) × (c ≡ b)
IsStepOf (SetSchedule schedule answer) b c = (answer ≡ book_schedule_answer b) × (c ≡ book_after_schedule schedule b)
IsStepOf (RotateBegin moment answer) b c =
    (answer ≢ Err NoMemory → (answer ≡ book_rotate_begin_answer b) × (c ≡ book_after_rotate_begin moment b))
    × (answer ≡ Err NoMemory → IsOk (book_rotate_begin_answer b) × (c ≡ b))
IsStepOf (Cut stream (Ok done)) b c = IsOk (cut_moment stream b) × (c ≡ book_after_note_cut stream b)
IsStepOf (Cut stream (Err (step_fault.Session fault))) b c = (cut_moment stream b ≡ Err fault) × (c ≡ b)
IsStepOf (Cut stream (Err fault)) b c = IsOk (cut_moment stream b) × (c ≡ b)
IsStepOf (RotateFinish answer) b c = (answer ≡ book_rotate_finish_answer b) × (c ≡ book_after_rotate_finish b)
IsStepOf (Clear stream answer) b c = IsClearedIfAllowed answer (book_clear_answer b) × (c ≡ b)
IsStepOf (SnapshotBegin moment answer) b c =
    (answer ≡ book_snapshot_begin_answer moment b) × (c ≡ book_after_snapshot_begin moment b)

-- steps lead from one book to another, one after the other
abbrev pub LeadsTo : List DeskStep → SessionBookState → SessionBookState → Type 0
LeadsTo [] b d = d ≡ b
LeadsTo (step ∷ steps) b d = (c : SessionBookState) × IsStepOf step b c × LeadsTo steps c d

-- what an operator did is what the session's book has: steps lead from the book that was planned to this one, and those of one
-- seat are just the operator's
pub record IsOperatorOf (planned : SessionBookState) (steps : List DeskStep) (book : SessionBookState) : Type 0 where
  pub lines : List (Line DeskStep)
  pub leads : LeadsTo (all_done lines) planned book
  pub who : ℕ
  pub own : steps ≡ done_by who lines
