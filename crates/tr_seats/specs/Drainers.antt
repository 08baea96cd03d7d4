-- A drainer, and one that is being made.
use Rattle.std.specs.Prelude.{◌≡◌, ◌≤◌, ◌+◌, ℕ, List, [], ◌∷◌, ◌++◌, length, replicate, take, Result, Ok, Err, slice_index, slice_index_or, slice_set}
use Rattle.tr_accounts.specs.declared.step.StreamStep.{StreamStep}
use Rattle.tr_journal.specs.Journals as journal
use Rattle.tr_ledger.specs.Ledgers.{SeatState}
use Rattle.tr_seats.specs.Accounts.{AreTakeSeats, taken_by}
use Rattle.tr_seats.specs.Books.{Books, consumed_books}
use Rattle.tr_seats.specs.Slots.{AreSeatsOf, amounts_of}
use Rattle.tr_stream.specs.declared.answers.TakeFault.{TakeFault}
use Rattle.tr_stream.specs.declared.answers.Taken.{Taken}

-- how many records a drainer took from each stream, and the packets that it took from each, in order
pub record DrainerState : Type 0 where
  pub amounts : List ℕ
  pub taken : List (List Taken)

abbrev pub drainer_state : List ℕ → List (List Taken) → DrainerState
drainer_state amounts taken = record { amounts = amounts; taken = taken }

-- a drainer of n streams that took nothing
abbrev pub new_drainer : ℕ → DrainerState
new_drainer n = drainer_state (replicate n 0) (replicate n [])

-- what it took from the stream of this number
abbrev pub taken_at : DrainerState → ℕ → List Taken
taken_at drainer i = slice_index_or drainer.taken i []

-- what an answer does to a drainer: it has the packet, and the packet's records are counted, at the place of this stream
abbrev pub drainer_after : Result Taken TakeFault → ℕ → DrainerState → DrainerState
drainer_after (Ok taken) i drainer = drainer_state
    (slice_set drainer.amounts i (slice_index drainer.amounts i + taken.count))
    (slice_set drainer.taken i (taken_at drainer i ++ taken ∷ []))
drainer_after (Err fault) i drainer = drainer

-- the seats of the first streams' consumed records and of their takes, with nothing yet
pub record AreFirst (books : List Books) (seats : List SeatState) (takes : List (journal.SeatState StreamStep)) : Type 0 where
  pub within : length seats ≤ length books
  pub seats_are : AreSeatsOf (take (length seats) (consumed_books books)) seats
  pub none : amounts_of seats ≡ replicate (length seats) 0
  pub takes_are : AreTakeSeats (length seats) books takes
  pub untaken : taken_by takes ≡ replicate (length seats) []
