-- What operators do at a shared session's desk, under its lock.
use Rattle.std.specs.Prelude.{◌≡◌, ◌⊎◌, ◌<◌, ℕ, nat_lt, length, Option, Some, None, Result, Ok, Err, if◌then◌else◌}
use Rattle.tr_schedule.specs.declared.cause.Cause.{Cause}
use Rattle.tr_seats.specs.Desks.{DeskState}
use Rattle.tr_session.specs.declared.faults.StepFault.{StepFault}
use Rattle.tr_session.specs.declared.faults.StepFault.TheVariants.{Session, Offer, Take, Cut}
use Rattle.tr_session.specs.declared.rotation.Next.{Next}
use Rattle.tr_session.specs.declared.rotation.Next.TheVariants as next
use Rattle.tr_session_book.specs.Book.{SessionBookState}
use Rattle.tr_session_book.specs.BookSteps.{book_after_rotate_begin}
use Rattle.tr_session_book.specs.declared.archive.Pending.{Pending}
use Rattle.tr_session_book.specs.declared.faults.SessionFault.{SessionFault}
use Rattle.tr_session_book.specs.declared.faults.SessionFault.TheVariants.{AlreadyRotated, CutMissing, Misplaced, NeverStarted, NoMemory, NotPending, NotSnapshotMode, RotationPending, SnapshotMode}
use Rattle.tr_stream.specs.declared.answers.CutDone.{CutDone}

-- ---- rotations

-- the stream that a rotation cuts next; none if it has cut every stream
abbrev pub next_in : ℕ → Option Pending → Result (Option ℕ) SessionFault
next_in streams None = Err NotPending
next_in streams (Some p) = Ok (if nat_lt p.cut streams then Some p.cut else None)

abbrev pub next_stream : SessionBookState → Result (Option ℕ) SessionFault
next_stream b = next_in (length b.threads) b.pending

-- the answer to a cut, as a rotation's next step gives it; a stream refuses its cut only if an allocation fails
abbrev pub as_next : ℕ → Result CutDone StepFault → Result Next SessionFault
as_next i (Ok done) = Ok (next.Cut i done.records)
as_next i (Err (Session fault)) = Err fault
as_next i (Err (Offer fault)) = Err NoMemory
as_next i (Err (Take fault)) = Err NoMemory
as_next i (Err (Cut fault)) = Err NoMemory

-- a stream that is cut is one of these
abbrev pub IsCutOf : ℕ → Next → Type 0
IsCutOf streams (next.Cut stream records) = stream < streams
IsCutOf streams next.AllCut = Unit {0}

-- a rotation begins if it is due
abbrev pub desk_if_due : Option Cause → ℕ → DeskState → DeskState
desk_if_due None now desk = desk
desk_if_due (Some cause) now desk = record desk { book = book_after_rotate_begin now desk.book }

-- ---- what is refused

abbrev pub IsBeginFault : SessionFault → Type 0
IsBeginFault fault =
    (fault ≡ SnapshotMode) ⊎ (fault ≡ NeverStarted) ⊎ (fault ≡ RotationPending) ⊎ (fault ≡ AlreadyRotated) ⊎ (fault ≡ NoMemory)

abbrev pub IsClearFault : SessionFault → Type 0
IsClearFault fault =
    (fault ≡ SnapshotMode) ⊎ (fault ≡ NeverStarted) ⊎ (fault ≡ RotationPending) ⊎ (fault ≡ NoMemory) ⊎ (fault ≡ Misplaced)

abbrev pub IsNextFault : SessionFault → Type 0
IsNextFault fault = (fault ≡ NotPending) ⊎ (fault ≡ NoMemory) ⊎ (fault ≡ Misplaced)

abbrev pub IsFinishFault : SessionFault → Type 0
IsFinishFault fault = (fault ≡ NotPending) ⊎ (fault ≡ CutMissing)

-- a rotation that has begun goes on, and is finished
abbrev pub IsEndFault : SessionFault → Type 0
IsEndFault fault = IsNextFault fault ⊎ IsFinishFault fault

abbrev pub IsRotateFault : SessionFault → Type 0
IsRotateFault fault = IsBeginFault fault ⊎ IsEndFault fault

-- streams are looked at one after another
abbrev pub IsLookFault : SessionFault → Type 0
IsLookFault fault = (fault ≡ NoMemory) ⊎ (fault ≡ Misplaced)

abbrev pub IsSnapshotFault : SessionFault → Type 0
IsSnapshotFault fault = (fault ≡ NotSnapshotMode) ⊎ (fault ≡ NeverStarted) ⊎ IsLookFault fault
