-- What a call does in an operator's name: the steps that it adds to the operator's.
use Rattle.std.specs.Prelude.{◌≡◌, ◌⊎◌, ◌<◌, ℕ, zero, suc, Bool, List, [], ◌∷◌, ◌++◌, length, map, sum, Option, Some, None, Result, Ok, Err, IsOk}
use Rattle.std.specs.List.{AllByRecursion}
use Rattle.tr_operations.specs.declared.step.DeskStep.{DeskStep}
use Rattle.tr_operations.specs.declared.step.DeskStep.TheVariants.{Switch, RotateBegin, Cut, RotateFinish, Clear, SnapshotBegin}
use Rattle.tr_schedule.specs.declared.cause.Cause.{Cause}
use Rattle.tr_seats.specs.Operators.{OperatorState, with_step, with_steps}
use Rattle.tr_session.specs.declared.faults.StepFault.{StepFault}
use Rattle.tr_session.specs.declared.rotation.Next.{Next}
use Rattle.tr_session.specs.declared.rotation.Next.TheVariants as next
use Rattle.tr_session.specs.declared.ticks.Ticked.{Ticked}
use Rattle.tr_session.specs.declared.ticks.Ticked.TheVariants as ticked
use Rattle.tr_session_book.specs.declared.archive.Archive.{Archive}
use Rattle.tr_session_book.specs.declared.faults.SessionFault.{SessionFault}
use Rattle.tr_session_book.specs.declared.faults.SessionFault.TheVariants.{Misplaced, NoMemory}
use Rattle.tr_shared.specs.Operating.{as_next}
use Rattle.tr_snapshot.specs.Snapshots.{SnapshotState}
use Rattle.tr_stream.specs.declared.answers.Cleared.{Cleared}
use Rattle.tr_stream.specs.declared.answers.CutDone.{CutDone}

-- ---- starts and stops

-- the first k streams are switched, in order
abbrev pub switched : Bool → ℕ → List DeskStep
switched active zero = []
switched active (suc k) = switched active k ++ Switch k active ∷ []

-- n streams are switched, or those before one that isn't where its number says
abbrev pub AreSwitched : Bool → ℕ → OperatorState → Result Unit SessionFault → OperatorState → Type 0
AreSwitched active n before (Ok done) after = after ≡ with_steps (switched active n) before
AreSwitched active n before (Err fault) after = (fault ≡ Misplaced) × (k : ℕ) × (k < n) × (after ≡ with_steps (switched active k) before)

-- a start or a stop: the book's answer, and if that is no refusal the switch of each stream
abbrev pub IsSwitchOf : (Result Unit SessionFault → DeskStep) → Bool → ℕ → OperatorState → Result Unit SessionFault → OperatorState → Type 0
IsSwitchOf call active n before answer after =
    (answer ≡ Ok tt → after ≡ with_steps (switched active n) (with_step (call (Ok tt)) before))
    × ((after ≡ with_step (call answer) before) ⊎ AreSwitched active n (with_step (call (Ok tt)) before) answer after)

-- ---- rotations

-- a rotation's next step: the cut of a stream, or nothing if all are cut; a refusal is noted if the stream was in its place
abbrev pub IsNextOf : OperatorState → Result Next SessionFault → OperatorState → Type 0
IsNextOf before (Ok (next.Cut stream records)) after =
    (done : CutDone) × (done.records ≡ records) × (after ≡ with_step (Cut stream (Ok done)) before)
IsNextOf before (Ok next.AllCut) after = after ≡ before
IsNextOf before (Err fault) after = (after ≡ before)
    ⊎ ((stream : ℕ) × (refusal : StepFault) × (as_next stream (Err refusal) ≡ Err fault)
    × (after ≡ with_step (Cut stream (Err refusal)) before))

-- a stream was cut
abbrev pub IsCut : DeskStep → Type 0
IsCut (Cut stream (Ok done)) = Unit {0}
IsCut step = ⊥

-- a rotation goes on with cuts alone; the last one may be refused
abbrev pub AreCutsOf : OperatorState → Result Unit SessionFault → OperatorState → Type 0
AreCutsOf before (Ok done) after = (cuts : List DeskStep) × AllByRecursion IsCut cuts × (after ≡ with_steps cuts before)
AreCutsOf before (Err fault) after = (cuts : List DeskStep) × AllByRecursion IsCut cuts × IsNextOf (with_steps cuts before) (Err fault) after

-- a rotation begins at this moment if it is due
abbrev pub IsDueOf : ℕ → OperatorState → Result (Option Cause) SessionFault → OperatorState → Type 0
IsDueOf now before (Ok None) after = after ≡ before
IsDueOf now before (Ok (Some cause)) after = (id : ℕ) × (after ≡ with_step (RotateBegin now (Ok id)) before)
IsDueOf now before (Err fault) after = (after ≡ before) ⊎ (after ≡ with_step (RotateBegin now (Err fault)) before)

-- the end of a rotation, after cuts alone
abbrev pub IsFinishOf : OperatorState → Result Archive SessionFault → OperatorState → Type 0
IsFinishOf before answer after =
    (cuts : List DeskStep) × AllByRecursion IsCut cuts × (after ≡ with_step (RotateFinish answer) (with_steps cuts before))

-- a rotation that has begun goes on with cuts alone, and is finished; the last of these steps may be refused
abbrev pub IsEndOf : OperatorState → Result Archive SessionFault → OperatorState → Type 0
IsEndOf before (Ok archive) after = IsFinishOf before (Ok archive) after
IsEndOf before (Err fault) after = AreCutsOf before (Err fault) after ⊎ IsFinishOf before (Err fault) after

-- a rotation at this moment: its beginning, cuts and its end
abbrev pub IsRotationOf : ℕ → OperatorState → Result Archive SessionFault → OperatorState → Type 0
IsRotationOf moment before answer after = ((id : ℕ) × IsEndOf (with_step (RotateBegin moment (Ok id)) before) answer after)
    ⊎ ((fault : SessionFault) × (answer ≡ Err fault) × (after ≡ with_step (RotateBegin moment (Err fault)) before))

-- a tick: a rotation at its moment, or nothing if none was due
abbrev pub IsTickOf : ℕ → OperatorState → Result Ticked SessionFault → OperatorState → Type 0
IsTickOf now before (Ok ticked.Idle) after = after ≡ before
IsTickOf now before (Ok (ticked.Rotated cause archive)) after = IsRotationOf now before (Ok archive) after
IsTickOf now before (Err fault) after = (((fault ≡ NoMemory) ⊎ (fault ≡ Misplaced)) × (after ≡ before))
    ⊎ IsRotationOf now before (Err fault) after

-- ---- snapshots

-- a snapshot: its beginning, with the moment that it shows; if that is done, a stream may still not be shown
abbrev pub IsSnapshotOf : ℕ → OperatorState → Result SnapshotState SessionFault → OperatorState → Type 0
IsSnapshotOf moment before (Ok s) after = after ≡ with_step (SnapshotBegin moment (Ok s.moment)) before
IsSnapshotOf moment before (Err fault) after = (answer : Result ℕ SessionFault)
    × ((answer ≡ Err fault) ⊎ (IsOk answer × ((fault ≡ NoMemory) ⊎ (fault ≡ Misplaced))))
    × (after ≡ with_step (SnapshotBegin moment answer) before)

-- ---- clears

-- the streams from this one on are cleared, in order
abbrev pub clears_from : ℕ → List Cleared → List DeskStep
clears_from i [] = []
clears_from i (done ∷ dones) = Clear i (Ok done) ∷ clears_from (suc i) dones

-- the streams before one are cleared, in order; its own clear is refused, which is noted if the stream was in its place
abbrev pub IsClearedTo : ℕ → OperatorState → SessionFault → OperatorState → Type 0
IsClearedTo n before fault after = (dones : List Cleared) × (length dones < n)
    × ((after ≡ with_steps (clears_from 0 dones) before)
    ⊎ (after ≡ with_step (Clear (length dones) (Err fault)) (with_steps (clears_from 0 dones) before)))

-- n streams are cleared, of so many records together; or none, if the book refuses that
abbrev pub IsClearOf : ℕ → OperatorState → Result ℕ SessionFault → OperatorState → Type 0
IsClearOf n before (Ok records) after = (dones : List Cleared) × (length dones ≡ n)
    × (records ≡ sum (map (λ (done : Cleared). done.records) dones)) × (after ≡ with_steps (clears_from 0 dones) before)
IsClearOf n before (Err fault) after = (after ≡ before)
    ⊎ (((fault ≡ NoMemory) ⊎ (fault ≡ Misplaced)) × IsClearedTo n before fault after)
