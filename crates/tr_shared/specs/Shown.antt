-- What a snapshot of a shared session shows, as far as those who hold no lock can tell.
use Rattle.std.specs.Prelude.{◌≡◌, ◌+◌, ℕ, List, Some, length, slice_get}
use Rattle.std.specs.List.{AllByRecursion}
use Rattle.tr_accounts.specs.Holds.{IsOffered}
use Rattle.tr_accounts.specs.StreamSteps.{accepted_in}
use Rattle.tr_book.specs.Snaps.{SnapState}
use Rattle.tr_seats.specs.Books.{IsPlanned, PlanState}
use Rattle.tr_seats.specs.Slots.{IsOwn, ProducerState}
use Rattle.tr_seats.specs.Sums.{totals_in}
use Rattle.tr_snapshot.specs.Snapshots.{SnapshotState, entries_shown}
use Rattle.tr_stream.specs.Consistent.{SerialsFollow}
use Rattle.tr_stream.specs.Kept.{IsKept}
use Rattle.tr_stream.specs.State.{StreamState}
use Rattle.tr_stream.specs.StateSteps.{state_snap}

-- the serials that are shown follow each other, from this one up to the last that was offered
pub record IsShownFrom (first : ℕ) (snap : SnapState) : Type 0 where
  pub follow : SerialsFollow first (entries_shown snap)
  pub last : first + length (entries_shown snap) ≡ snap.offered

-- what is shown is what this stream has at a moment, and the plan made it for this number
pub record IsLookAt (plan : PlanState) (i moment : ℕ) (stream : StreamState) (snap : SnapState) : Type 0 where
  pub kept : IsKept stream
  pub planned : IsPlanned plan i stream.config
  pub value : snap ≡ state_snap moment stream

-- what is shown of the stream of this number: what some stream of the plan has at that moment
pub record IsShown (plan : PlanState) (moment i : ℕ) (snap : SnapState) : Type 0 where
  pub number : snap.stream ≡ i
  pub stream : StreamState
  pub look : IsLookAt plan i moment stream snap
  pub first : ℕ
  pub from : IsShownFrom first snap

-- each stream is shown at the place of its number, as it is at this moment
abbrev pub AreShown : PlanState → ℕ → List SnapState → Type 0
AreShown plan moment snaps = (i : ℕ) (snap : SnapState) → slice_get snaps i ≡ Some snap → IsShown plan moment i snap

-- a snapshot shows each stream of the plan as it is at the snapshot's own moment
abbrev pub ShowsAll : PlanState → SnapshotState → Type 0
ShowsAll plan s = AreShown plan s.moment s.streams

-- what is shown of a producer's stream: what a stream has to which just that producer offered, from the first record that
-- wasn't overwritten on, each record as it was offered
pub record IsShownWith (plan : PlanState) (moment : ℕ) (p : ProducerState) (snap : SnapState) : Type 0 where
  pub stream : StreamState
  pub own : IsOwn p (totals_in stream)
  pub look : IsLookAt plan p.number moment stream snap
  pub offered : snap.offered ≡ p.offered
  pub from : IsShownFrom p.overwritten snap
  pub records : AllByRecursion (IsOffered (accepted_in p.steps)) (entries_shown snap)

abbrev pub OwnIsShown : PlanState → ℕ → ProducerState → List SnapState → Type 0
OwnIsShown plan moment p snaps =
    (snap : SnapState) → slice_get snaps p.number ≡ Some snap → IsShownWith plan moment p snap

abbrev pub ShowsOwn : PlanState → ProducerState → SnapshotState → Type 0
ShowsOwn plan p s = OwnIsShown plan s.moment p s.streams
