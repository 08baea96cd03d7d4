-- What is noted of a stream's calls under its lock, and what that says of its producer.
use Rattle.std.specs.Prelude.{◌≡◌, ◌+◌, ◌<◌, ℕ, List, [], Result, Ok, Err, length, map, slice_index_or}
use Rattle.std.specs.List.{AllByRecursion}
use Rattle.std.specs.List.Sorted.{IsStrictlyIncreasing}
use Rattle.atomic_table.specs.Seated.{TableId}
use Rattle.tr_accounts.specs.Accounts.{IsAccounted, history_of}
use Rattle.tr_accounts.specs.Holds.{HoldsOffers}
use Rattle.tr_accounts.specs.Seats.{IsJournalOf, desk_seat, is_offer, is_operation, steps_of}
use Rattle.tr_accounts.specs.StreamSteps.{accepted_in, clear_step, cut_step, taken_in}
use Rattle.tr_accounts.specs.Takes.{WasTaken}
use Rattle.tr_accounts.specs.declared.step.StreamStep.{StreamStep}
use Rattle.tr_journal.specs.Journals.{JournalState, SeatState, seat_after}
use Rattle.tr_journal.specs.Views.{all_done, done_by}
use Rattle.tr_journal.specs.declared.rule.Line.{Line}
use Rattle.tr_seats.specs.Books.{Books, books_at}
use Rattle.tr_session.specs.Sizes.{HoldsItsParts}
use Rattle.tr_stream.specs.State.{StreamState}
use Rattle.tr_stream.specs.declared.answers.ClearFault.{ClearFault}
use Rattle.tr_stream.specs.declared.answers.Cleared.{Cleared}
use Rattle.tr_stream.specs.declared.answers.CutDone.{CutDone}
use Rattle.tr_stream.specs.declared.answers.CutFault.{CutFault}
use Rattle.tr_stream.specs.declared.answers.Taken.{Taken}

-- ---- a stream's journal

-- a seat of this table and this number, with nothing joined to it
abbrev pub IsSeatAt : TableId → ℕ → SeatState StreamStep → Type 0
IsSeatAt table who seat = (seat.table ≡ table) × (seat.who ≡ who) × (seat.joined ≡ [])

-- nothing was noted, and just the producer's seat and the desk's were made
abbrev pub IsNewAccount : JournalState StreamStep → Type 0
IsNewAccount account = (account.lines ≡ []) × (account.made ≡ 2)

-- a slot keeps the journal of its stream, in this table, with a seat for each drainer beside the producer's and the desk's
pub record IsKeptAccount (table : TableId) (stream : StreamState) (drainers : ℕ) (account : JournalState StreamStep) : Type 0 where
  pub table_is : account.table ≡ table
  pub lines_are : IsJournalOf account.lines stream
  pub made_is : account.made ≡ drainers + 2
  -- no call of a slot releases a part
  pub held : HoldsItsParts stream

-- ---- producers

-- what a producer did is what its stream has: the stream stands for a history of calls, each answered as in that history,
-- among which the offers, refused ones too, are just the producer's, and it holds the accepted ones and nothing else
pub record IsAccountOf (steps : List StreamStep) (stream : StreamState) : Type 0 where
  pub all : List StreamStep
  pub accounted : IsAccounted all stream
  pub offers : steps_of is_offer all ≡ steps
  pub holds : HoldsOffers (accepted_in steps) stream

-- ---- the desk

-- what the desk did to a stream is what the stream has: the stream stands for a history of calls, each answered as in that
-- history, among which all but offers and takes are just the desk's
pub record IsOperatedBy (steps : List StreamStep) (stream : StreamState) : Type 0 where
  pub all : List StreamStep
  pub accounted : IsAccounted all stream
  pub operations : steps_of is_operation all ≡ steps

-- the desk's seat after a cut and a clear; what is refused isn't noted
abbrev pub seat_noting_cut : ℕ → Result CutDone CutFault → SeatState StreamStep → SeatState StreamStep
seat_noting_cut moment (Ok done) seat = seat_after (cut_step moment (Ok done)) seat
seat_noting_cut moment (Err fault) seat = seat

abbrev pub seat_noting_clear : Result Cleared ClearFault → SeatState StreamStep → SeatState StreamStep
seat_noting_clear (Ok done) seat = seat_after (clear_step (Ok done)) seat
seat_noting_clear (Err fault) seat = seat

-- ---- drainers

-- a drainer's seat in this table, with nothing joined to it
abbrev pub IsTakeSeat : TableId → SeatState StreamStep → Type 0
IsTakeSeat table seat = (seat.table ≡ table) × (desk_seat < seat.who) × (seat.joined ≡ [])

-- a drainer's seats in the journals of the first streams, in order of number
pub record AreTakeSeats (n : ℕ) (books : List Books) (seats : List (SeatState StreamStep)) : Type 0 where
  pub many : length seats ≡ n
  pub each : (i : ℕ) (d : SeatState StreamStep) → i < n → IsTakeSeat (books_at books i).journal (slice_index_or seats i d)

-- what a drainer took from each stream, as its seats noted
abbrev pub taken_by : List (SeatState StreamStep) → List (List Taken)
taken_by seats = map (λ (s : SeatState StreamStep). taken_in s.own) seats

-- what a drainer took is what its stream has: the stream stands for a history of calls, each answered as in that history, and
-- one seat's takes in it answered just these packets, in order of their numbers; and each has as many records as was answered,
-- and is kept in the chunk that was answered, or was cleared since
pub record IsTakenFrom (taken : List Taken) (stream : StreamState) : Type 0 where
  pub lines : List (Line StreamStep)
  pub accounted : IsAccounted (all_done lines) stream
  pub who : ℕ
  pub own : taken ≡ taken_in (done_by who lines)
  pub rise : IsStrictlyIncreasing (map (λ (t : Taken). t.seq) taken)
  pub were : AllByRecursion (WasTaken (history_of stream.config (all_done lines))) taken
