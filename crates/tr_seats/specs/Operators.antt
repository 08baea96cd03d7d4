-- A desk's book with the journal of its operators' steps.
use Rattle.std.specs.Prelude.{◌≡◌, ◌≢◌, ◌<◌, ◌≤◌, ◌+◌, ◌-◌, ◌^◌, ◌⊎◌, ◌++◌, ◌==◌, ◌∷◌, [], ℕ, Bool, List, Result, Ok, Err, IsTrue, if◌then◌else◌, length, map, slice_index_or}
use Rattle.std.specs.List.{AllByRecursion, AllPairs, Contains}
use Rattle.atomic_table.specs.Seated.{TableId}
use Rattle.tr_accounts.specs.Seats.{desk_seat}
use Rattle.tr_accounts.specs.StreamSteps.{clear_step, cut_step, switch_step}
use Rattle.tr_accounts.specs.declared.step.StreamStep.{StreamStep}
use Rattle.tr_journal.specs.Journals.{JournalState, SeatState}
use Rattle.tr_journal.specs.Views.{AreNumbered, all_done, done_by}
use Rattle.tr_journal.specs.declared.rule.Line.{Line}
use Rattle.tr_operations.specs.Operations.{IsStepOf, LeadsTo}
use Rattle.tr_operations.specs.declared.step.DeskStep.{DeskStep}
use Rattle.tr_operations.specs.declared.step.DeskStep.TheVariants.{Switch, Cut, Clear}
use Rattle.tr_seats.specs.Accounts.{IsSeatAt}
use Rattle.tr_seats.specs.Books.{Books, PlanState, books_at}
use Rattle.tr_seats.specs.Desks.{DeskState}
use Rattle.tr_seats.specs.Slots.{SlotState}
use Rattle.tr_session.specs.declared.faults.StepFault.{StepFault}
use Rattle.tr_session_book.specs.Book.{SessionBookState}
use Rattle.tr_session_book.specs.BookSteps.{cut_moment, is_active}
use Rattle.tr_session_book.specs.declared.faults.SessionFault.{SessionFault}
use Rattle.tr_session_book.specs.declared.faults.SessionFault.TheVariants.{Misplaced}
use Rattle.tr_stream.specs.StateSteps.{state_after_switch}
use Rattle.tr_stream.specs.declared.answers.Cleared.{Cleared}
use Rattle.tr_stream.specs.declared.answers.CutDone.{CutDone}

-- what a step at a desk with this book does to the stream of this number: a switch, a clear, or a cut at the pending rotation's
-- end; nothing if it is refused

abbrev pub cuts_at : Result ℕ SessionFault → CutDone → List StreamStep
cuts_at (Ok moment) done = cut_step moment (Ok done) ∷ []
cuts_at (Err fault) done = []

abbrev pub done_to : ℕ → DeskStep → SessionBookState → List StreamStep
done_to i (Switch stream active) b = if i == stream then switch_step active ∷ [] else []
done_to i (Cut stream (Ok done)) b = if i == stream then cuts_at (cut_moment stream b) done else []
done_to i (Clear stream (Ok done)) b = if i == stream then clear_step (Ok done) ∷ [] else []
done_to i step b = []

-- steps lead from one book to another, one after the other, and do just this to the stream of this number
abbrev pub DoTo : ℕ → List DeskStep → SessionBookState → SessionBookState → List StreamStep → Type 0
DoTo i [] b d done = (d ≡ b) × (done ≡ [])
DoTo i (step ∷ steps) b d done = (c : SessionBookState) × IsStepOf step b c × (rest : List StreamStep)
    × (done ≡ done_to i step b ++ rest) × DoTo i steps c d rest

-- the desk's seat in the journal of the stream of this number has what the steps at the desk did to that stream
pub record IsDeskSeat (plan : PlanState) (i : ℕ) (steps : List DeskStep) (book : SessionBookState) (seat : SeatState StreamStep) : Type 0 where
  pub seat_is : IsSeatAt (books_at plan.books i).journal desk_seat seat
  pub did : DoTo i steps plan.session.book book seat.own

-- the desk's seats in the journals of the first n streams, which have noted nothing
pub record AreNewDeskSeats (n : ℕ) (books : List Books) (seats : List (SeatState StreamStep)) : Type 0 where
  pub many : length seats ≡ n
  pub each : (i : ℕ) (d : SeatState StreamStep) → i < n
      → IsSeatAt (books_at books i).journal desk_seat (slice_index_or seats i d) × ((slice_index_or seats i d).own ≡ [])

-- ---- operators

-- an operator: its number, from 1 on in the order in which they are made, and what it did, in order
pub record OperatorState : Type 0 where
  pub number : ℕ
  pub steps : List DeskStep

abbrev pub operator_state : ℕ → List DeskStep → OperatorState
operator_state number steps = record { number = number; steps = steps }

-- the operator of a number, who did nothing yet
abbrev pub new_operator : ℕ → OperatorState
new_operator number = operator_state number []

-- an operator did these too
abbrev pub with_steps : List DeskStep → OperatorState → OperatorState
with_steps steps operator = record operator { steps = operator.steps ++ steps }

abbrev pub with_step : DeskStep → OperatorState → OperatorState
with_step step operator = with_steps (step ∷ []) operator

abbrev pub operator_numbers : List OperatorState → List ℕ
operator_numbers operators = map (λ (o : OperatorState). o.number) operators

-- all operators that were made, each where its number says
pub record AreAllOperators (made : ℕ) (operators : List OperatorState) : Type 0 where
  pub many : length operators ≡ made
  pub in_order : (k : ℕ) (d : OperatorState) → k < length operators → (slice_index_or operators k d).number ≡ k + 1

-- ---- a desk's journal

-- what a program counts to is this number, unless both are as large as it can count
abbrev pub IsNumber : ℕ → ℕ → Type 0
IsNumber counted number = (counted ≡ number) ⊎ ((2 ^ 128 ≤ counted + 1) × (2 ^ 128 ≤ number + 1))

-- how many operators have seats in a journal of which so many were made: its first seat is nobody's
abbrev pub operators_of : ℕ → ℕ
operators_of made = made - 1

-- each line is of an operator's seat
pub record AreOperators (made : ℕ) (lines : List (Line DeskStep)) : Type 0 where
  pub numbered : AreNumbered made lines
  pub named : AllByRecursion (λ (l : Line DeskStep). 0 < l.who) lines

-- the journal of a plan's desk leads from the book that was planned to the current one, and the desk's seats in the streams'
-- journals have what its steps did to them; so many operators were made
pub record IsDeskJournal (plan : PlanState) (operators : ℕ) (book : SessionBookState) (journal : JournalState DeskStep)
    (seats : List (SeatState StreamStep)) : Type 0 where
  pub table_is : journal.table ≡ plan.desk
  pub first : 0 < journal.made
  pub count : IsNumber operators (operators_of journal.made)
  pub theirs : AreOperators journal.made journal.lines
  pub leads : LeadsTo (all_done journal.lines) plan.session.book book
  pub many : length seats ≡ length plan.books
  pub each : (i : ℕ) (d : SeatState StreamStep) → i < length plan.books
      → IsDeskSeat plan i (all_done journal.lines) book (slice_index_or seats i d)

-- an operator's seat in this table, of this number, with nothing joined to it
abbrev pub IsOperatorSeat : TableId → ℕ → SeatState DeskStep → Type 0
IsOperatorSeat table number seat = (seat.table ≡ table) × (seat.joined ≡ []) × (0 < seat.who) × IsNumber number seat.who

-- an operator's steps are all that a journal has of its number
abbrev pub HasItsOwn : List (Line DeskStep) → OperatorState → Type 0
HasItsOwn lines operator = operator.steps ≡ done_by operator.number lines

-- these operators did all that was done at a desk: each step is one's, and none is missing
pub record DidAll (operators : List OperatorState) (lines : List (Line DeskStep)) : Type 0 where
  pub apart : AllPairs (λ a b. a ≢ b) (operator_numbers operators)
  pub own : AllByRecursion (HasItsOwn lines) operators
  pub none_missing : AllByRecursion (λ (l : Line DeskStep). Contains (operator_numbers operators) l.who) lines

-- what was done at a desk is what a session has: steps lead from the book that was planned to this one, and did just this to each
-- stream; each of these operators has just the steps of its number, and together they have all, if these are all that were made
pub record HaveDone (planned : SessionBookState) (operators : List OperatorState) (all : Bool) (book : SessionBookState)
    (operations : List (List StreamStep)) : Type 0 where
  pub lines : List (Line DeskStep)
  pub leads : LeadsTo (all_done lines) planned book
  pub own : AllByRecursion (HasItsOwn lines) operators
  pub none_missing : IsTrue all → DidAll operators lines
  pub did : (i : ℕ) → i < length operations → DoTo i (all_done lines) planned book (slice_index_or operations i [])

-- operators did what a session's book has, and together they did all of it, if these are all that were made
abbrev pub AreOperatorsOf : SessionBookState → List OperatorState → Bool → SessionBookState → Type 0
AreOperatorsOf planned operators all book = (operations : List (List StreamStep)) × HaveDone planned operators all book operations

-- ---- what is done to the stream in a slot, if it is the one of this number: another one is refused, and nobody did it

abbrev pub operator_after_cut : Result CutDone StepFault → ℕ → SlotState → OperatorState → OperatorState
operator_after_cut answer i slot operator = if i == slot.number then with_step (Cut i answer) operator else operator

abbrev pub operator_after_clear : Result Cleared SessionFault → ℕ → SlotState → OperatorState → OperatorState
operator_after_clear answer i slot operator = if i == slot.number then with_step (Clear i answer) operator else operator

-- a stream takes offers as the session does
abbrev pub switch_answer : ℕ → SlotState → Result Unit SessionFault
switch_answer i slot = if i == slot.number then Ok tt else Err Misplaced

abbrev pub slot_after_switch : ℕ → DeskState → SlotState → SlotState
slot_after_switch i desk slot =
    if i == slot.number then record slot { stream = state_after_switch (is_active desk.book.state) slot.stream } else slot

abbrev pub operator_after_switch : ℕ → DeskState → SlotState → OperatorState → OperatorState
operator_after_switch i desk slot operator =
    if i == slot.number then with_step (Switch i (is_active desk.book.state)) operator else operator
