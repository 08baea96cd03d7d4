-- What a plan makes of its session.
use Rattle.std.specs.Prelude.{◌≡◌, ◌≤◌, ◌+◌, ℕ, suc, List, [], ◌∷◌, Some, length, map, replicate, slice_get, take}
use Rattle.atomic_table.specs.Seated.{TableId}
use Rattle.tr_ledger.specs.Ledgers.{LedgerState, SeatState, ledger_state, seat_state}
use Rattle.tr_seats.specs.Books.{Books, PlanState, cleared_books, consumed_books, cut_books}
use Rattle.tr_seats.specs.Desks.{desk_state, noted_state}
use Rattle.tr_seats.specs.Settling.{OpenedState, opened_state}
use Rattle.tr_seats.specs.Slots.{AreNew, AreSeatsOf, ProducerState, SlotState, amounts_of, slot_state}
use Rattle.tr_stream.specs.State.{StreamState}
use Rattle.tr_stream.specs.StateSteps.{new_state}
use Rattle.tr_tally.specs.Tallies.{TellerState, teller_state}

-- a stream before its first call, the tables of its books, and its teller
pub record PlannedState : Type 0 where
  pub stream : StreamState
  pub books : Books
  pub teller : TellerState

abbrev pub planned_state : StreamState → Books → TellerState → PlannedState
planned_state stream books teller = record { stream = stream; books = books; teller = teller }

-- nothing was done on a stream
abbrev pub IsUnused : StreamState → Type 0
IsUnused t = t ≡ new_state t.config

-- nothing was done on these streams
abbrev pub AreUnused : List StreamState → Type 0
AreUnused streams = (i : ℕ) (t : StreamState) → slice_get streams i ≡ Some t → IsUnused t

-- a ledger with total 0, and its whole seat
abbrev pub IsOpened : LedgerState → SeatState → Type 0
IsOpened ledger seat = (ledger ≡ ledger_state ledger.table 0 0) × (seat ≡ seat_state ledger.table 0 1)

-- the slots of these streams, which have the numbers from this one on
abbrev pub slots_from : ℕ → List StreamState → List SlotState
slots_from i [] = []
slots_from i (t ∷ ts) = slot_state i t 0 ∷ slots_from (suc i) ts

-- a planned session before its first call: no operator and no drainer was made, and no seat has anything
abbrev pub opened_of : PlanState → OpenedState
opened_of plan = opened_state
    (desk_state (noted_state plan.session.book 0) 0 (replicate (length plan.books) 0) (replicate (length plan.books) 0)
    (replicate (length plan.books) 0))
    (slots_from 0 plan.session.streams)

-- the streams of these, their books, and their tellers
abbrev pub streams_in : List PlannedState → List StreamState
streams_in planned = map (λ (p : PlannedState). p.stream) planned

abbrev pub books_in : List PlannedState → List Books
books_in planned = map (λ (p : PlannedState). p.books) planned

abbrev pub tellers_in : List PlannedState → List TellerState
tellers_in planned = map (λ (p : PlannedState). p.teller) planned

-- these are the tellers of the streams from this one on, and have published nothing
abbrev pub AreTellersFrom : ℕ → TableId → List TellerState → Type 0
AreTellersFrom k table tellers =
    (i : ℕ) (t : TellerState) → slice_get tellers i ≡ Some t → t ≡ teller_state table (k + i) 0

-- the first streams of a plan in their slots, with their producers and the desk's seats
pub record AreNamed (plan : PlanState) (slots : List SlotState) (producers : List ProducerState)
    (consumed cuts cleared : List SeatState) : Type 0 where
  pub within : length slots ≤ length plan.books
  pub slots_are : slots ≡ slots_from 0 (take (length slots) plan.session.streams)
  pub producers_are : AreNew (length slots) producers
  pub consumed_are : AreSeatsOf (take (length slots) (consumed_books plan.books)) consumed
  pub cuts_are : AreSeatsOf (take (length slots) (cut_books plan.books)) cuts
  pub cleared_are : AreSeatsOf (take (length slots) (cleared_books plan.books)) cleared
  pub consumed_none : amounts_of consumed ≡ replicate (length slots) 0
  pub cuts_none : amounts_of cuts ≡ replicate (length slots) 0
  pub cleared_none : amounts_of cleared ≡ replicate (length slots) 0
