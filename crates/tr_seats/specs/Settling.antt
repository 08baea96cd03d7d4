-- What settling answers.
use Rattle.std.specs.Prelude.{◌≡◌, ◌≢◌, ℕ, ◌+◌, ◌<◌, ◌≤◌, ◌==◌, Bool, List, [], Some, length, map, sum, count_by, slice_get, slice_index, slice_index_or, All}
use Rattle.std.specs.List.{AllByRecursion, sum_by}
use Rattle.tr_accounts.specs.declared.step.StreamStep.{StreamStep}
use Rattle.tr_journal.specs.Views.{all_done, done_by}
use Rattle.tr_journal.specs.declared.rule.Line.{Line}
use Rattle.tr_operations.specs.Operations.{LeadsTo}
use Rattle.tr_operations.specs.declared.step.DeskStep.{DeskStep}
use Rattle.tr_seats.specs.Accounts.{IsAccountOf, IsOperatedBy, IsTakenFrom}
use Rattle.tr_seats.specs.Books.{IsPlanned, PlanState}
use Rattle.tr_seats.specs.Desks.{DeskState, IsOfPlan}
use Rattle.tr_seats.specs.Drainers.{DrainerState, taken_at}
use Rattle.tr_seats.specs.Histories.{IsHistoryOf, takes_of}
use Rattle.tr_seats.specs.Operators.{DoTo, HaveDone, OperatorState}
use Rattle.tr_seats.specs.Slots.{IsOwn, ProducerState, SlotState}
use Rattle.tr_seats.specs.Sums.{totals_in}
use Rattle.tr_seats.specs.declared.settling.SettleError.{SettleError}
use Rattle.tr_seats.specs.declared.settling.SettleError.TheVariants.{ProducerMissing, DrainerMissing, Misplaced}
use Rattle.tr_seats.specs.declared.totals.Totals.{Totals}
use Rattle.tr_session.specs.Session.{SessionOf}
use Rattle.tr_session.specs.Sizes.{HoldsItsParts}
use Rattle.tr_session_book.specs.Book.{SessionBookState}
use Rattle.tr_stream.specs.State.{StreamState, in_parts, in_ring}

-- a session out of its locks
pub record OpenedState : Type 0 where
  pub desk : DeskState
  pub slots : List SlotState

abbrev pub opened_state : DeskState → List SlotState → OpenedState
opened_state desk slots = record { desk = desk; slots = slots }

abbrev pub streams_of : List SlotState → List StreamState
streams_of slots = map (λ (s : SlotState). s.stream) slots

-- a session is that of a plan: what was planned of its book is as it was, and its streams are the planned ones, in order of
-- number; and none of their parts was released
pub record IsSessionOf (plan : PlanState) (s : SessionOf StreamState) : Type 0 where
  pub book : IsOfPlan plan.session.book s.book
  pub many : length s.streams ≡ length plan.books
  pub streams : (i : ℕ) (t : StreamState) → slice_get s.streams i ≡ Some t → IsPlanned plan i t.config
  pub held : AllByRecursion HoldsItsParts s.streams

-- the sums of what all seats have: the producers', the drainers' and the desk's
abbrev pub totals_of_seats : List ProducerState → List DrainerState → DeskState → Totals
totals_of_seats producers drainers desk = record {
  offered = sum_by (λ (p : ProducerState). p.offered) producers;
  discarded = sum_by (λ (p : ProducerState). p.discarded) producers;
  overwritten = sum_by (λ (p : ProducerState). p.overwritten) producers;
  overwritten_packets = sum_by (λ (p : ProducerState). p.overwritten_packets) producers;
  consumed = sum desk.consumed + sum_by (λ (d : DrainerState). sum d.amounts) drainers;
  cuts = sum desk.cuts;
  cleared = sum desk.cleared;
}

-- each record that was offered was discarded, overwritten or cleared, or is in a ring or in a part
abbrev pub AddUp : Totals → List StreamState → Type 0
AddUp t streams = t.offered ≡ t.discarded + t.overwritten + t.cleared + sum_by (λ (s : StreamState). in_ring s.ring) streams
    + sum_by (λ (s : StreamState). in_parts s.parts) streams

-- each record that was consumed is in a part, or was cleared after that
abbrev pub WereConsumed : Totals → List StreamState → Type 0
WereConsumed t streams =
    (t.consumed ≡ sum_by (λ (s : StreamState). in_parts s.parts) streams + sum_by (λ (s : StreamState). s.counters.withdrawn) streams)
    × (sum_by (λ (s : StreamState). s.counters.withdrawn) streams ≤ t.cleared)

-- how many records the drainers took from the stream of this number
abbrev pub taken_of : List DrainerState → ℕ → ℕ
taken_of drainers i = sum_by (λ (d : DrainerState). slice_index d.amounts i) drainers

-- one producer for each of n streams, in any order
abbrev pub IsOneEach : ℕ → List ProducerState → Type 0
IsOneEach n producers = (i : ℕ) → i < n → count_by (λ (p : ProducerState). p.number == i) producers ≡ 1

-- each stream has made `made` seats beside the first
abbrev pub AreAllMade : ℕ → List SlotState → Type 0
AreAllMade made slots = All (λ (s : SlotState). s.made ≡ made) slots

-- each stream lies where its number says
abbrev pub AreInPlace : List SlotState → Type 0
AreInPlace slots = (i : ℕ) (s : SlotState) → i < length slots → (slice_index_or slots i s).number ≡ i

-- each stream lies where its number says, and gave a seat to each of the drainers
pub record AreWhole (drainers : ℕ) (slots : List SlotState) : Type 0 where
  pub made : AreAllMade drainers slots
  pub in_place : AreInPlace slots

-- all is there: a producer for each stream, and each drainer that was made
pub record CanSettle (producers : List ProducerState) (drainers : ℕ) (s : OpenedState) : Type 0 where
  pub one_each : IsOneEach (length s.slots) producers
  pub all_drainers : drainers ≡ s.desk.drainers
  pub whole : AreWhole drainers s.slots

-- which of these is missing: the first
abbrev pub IsWhy : SettleError → List ProducerState → ℕ → OpenedState → Type 0
IsWhy ProducerMissing producers drainers s = ¬ IsOneEach (length s.slots) producers
IsWhy DrainerMissing producers drainers s = IsOneEach (length s.slots) producers × (drainers ≢ s.desk.drainers)
IsWhy Misplaced producers drainers s =
    IsOneEach (length s.slots) producers × (drainers ≡ s.desk.drainers) × (¬ AreWhole drainers s.slots)

-- each producer's numbers are those of its stream
abbrev pub AreTheirs : List ProducerState → List StreamState → Type 0
AreTheirs producers streams =
    (k : ℕ) (p : ProducerState) (t : StreamState) → k < length producers
    → IsOwn (slice_index_or producers k p) (totals_in (slice_index_or streams (slice_index_or producers k p).number t))

-- what each producer offered is what its stream has
abbrev pub AreAccountsOf : List ProducerState → List StreamState → Type 0
AreAccountsOf producers streams = (k : ℕ) (p : ProducerState) (t : StreamState) → k < length producers
    → IsAccountOf (slice_index_or producers k p).steps (slice_index_or streams (slice_index_or producers k p).number t)

-- the packets that each drainer took from each stream are what that stream has
abbrev pub ArePacketsOf : List DrainerState → List StreamState → Type 0
ArePacketsOf drainers streams = (k i : ℕ) (d : DrainerState) (t : StreamState) → k < length drainers → i < length streams
    → IsTakenFrom (taken_at (slice_index_or drainers k d) i) (slice_index_or streams i t)

-- one history of each stream has all that its producer offered, that all drainers took from it and that the desk did to it, and
-- nothing else
abbrev pub HaveHistories : List ProducerState → List DrainerState → List (List StreamStep) → List StreamState → Type 0
HaveHistories producers drainers operations streams = (k : ℕ) (p : ProducerState) (t : StreamState) → k < length producers
    → IsHistoryOf (slice_index_or producers k p).steps (takes_of drainers (slice_index_or producers k p).number)
    (slice_index_or operations (slice_index_or producers k p).number [])
    (slice_index_or streams (slice_index_or producers k p).number t)

-- one history of a session: steps at its desk lead from the book that was planned to its own, each operator's just its own, and
-- one history of each stream has its producer's offers, the drainers' takes, and what those steps did to it
pub record HaveOneHistory (planned : SessionBookState) (operators : List OperatorState) (all : Bool) (producers : List ProducerState)
    (drainers : List DrainerState) (book : SessionBookState) (streams : List StreamState) : Type 0 where
  pub operations : List (List StreamStep)
  pub many : length operations ≡ length streams
  pub done : HaveDone planned operators all book operations
  pub histories : HaveHistories producers drainers operations streams

-- what the steps at a desk did to the stream of this number is what it has
pub record WasOperated (i : ℕ) (steps : List DeskStep) (planned book : SessionBookState) (t : StreamState) : Type 0 where
  pub operations : List StreamStep
  pub did : DoTo i steps planned book operations
  pub are : IsOperatedBy operations t

-- what an operator did is what a session has: steps lead from the book that was planned to its own, and those of one seat are
-- just the operator's; and all that was done to its streams but offers and takes, they did, each cut at its rotation's end
pub record HasOperated (planned : SessionBookState) (steps : List DeskStep) (book : SessionBookState)
    (streams : List StreamState) : Type 0 where
  pub lines : List (Line DeskStep)
  pub leads : LeadsTo (all_done lines) planned book
  pub who : ℕ
  pub own : steps ≡ done_by who lines
  pub streams_are : (i : ℕ) (t : StreamState) → i < length streams
      → WasOperated i (all_done lines) planned book (slice_index_or streams i t)

-- the same of these operators at once, who did all of it together, if these are all that were made
pub record HaveOperated (planned : SessionBookState) (operators : List OperatorState) (all : Bool) (book : SessionBookState)
    (streams : List StreamState) : Type 0 where
  pub operations : List (List StreamStep)
  pub many : length operations ≡ length streams
  pub done : HaveDone planned operators all book operations
  pub are : (i : ℕ) (t : StreamState) → i < length streams
      → IsOperatedBy (slice_index_or operations i []) (slice_index_or streams i t)

-- what was consumed of each stream is what the desk's seat of it and the drainers' have
abbrev pub HaveConsumed : List ℕ → List DrainerState → List StreamState → Type 0
HaveConsumed desk drainers streams = (k : ℕ) (t : StreamState) → k < length streams
    → (totals_in (slice_index_or streams k t)).consumed ≡ slice_index desk k + taken_of drainers k

-- what was cleared of each stream is what the desk's seat of it has
abbrev pub HaveCleared : List ℕ → List StreamState → Type 0
HaveCleared desk streams = (k : ℕ) (t : StreamState) → k < length streams
    → (totals_in (slice_index_or streams k t)).cleared ≡ slice_index desk k
