-- The desk of a session: its book, with the seats of what it consumes, cuts and clears.
use Rattle.std.specs.Prelude.{◌≡◌, ℕ, ◌+◌, ◌<◌, List, length, nat_le, Result, Ok, Err, slice_index, if◌then◌else◌}
use Rattle.tr_ledger.specs.Ledgers.{SeatState}
use Rattle.tr_seats.specs.Books.{IsPlan, PlanState, cleared_books, consumed_books, cut_books}
use Rattle.tr_seats.specs.Slots.{AreSeatsOf, amounts_of}
use Rattle.tr_terms.specs.declared.limits.TheConstants.{MOST_DRAINERS}
use Rattle.tr_session_book.specs.Book.{SessionBookState}
use Rattle.tr_session_book.specs.BookSteps.{chunks_closed}
use Rattle.tr_session_book.specs.declared.faults.SessionFault.{SessionFault}
use Rattle.tr_session_book.specs.declared.faults.SessionFault.TheVariants.{TooMany}

-- a desk's book, and how many operators were made
pub record NotedState : Type 0 where
  pub book : SessionBookState
  pub operators : ℕ

abbrev pub noted_state : SessionBookState → ℕ → NotedState
noted_state book operators = record { book = book; operators = operators }

-- the session's book, how many operators were made and how many drainers were begun, and the amounts of the desk's seats, one of
-- each kind for each stream
pub record DeskState : Type 0 where
  pub book : SessionBookState
  pub operators : ℕ
  pub drainers : ℕ
  pub consumed : List ℕ
  pub cuts : List ℕ
  pub cleared : List ℕ

abbrev pub desk_state : NotedState → ℕ → List ℕ → List ℕ → List ℕ → DeskState
desk_state noted drainers consumed cuts cleared = record {
  book = noted.book;
  operators = noted.operators;
  drainers = drainers;
  consumed = consumed;
  cuts = cuts;
  cleared = cleared;
}

-- one operator more was made
abbrev pub with_operator : DeskState → DeskState
with_operator desk = record desk { operators = desk.operators + 1 }

-- what no call changes in a book once its session is shared
pub record IsOfPlan (planned book : SessionBookState) : Type 0 where
  pub uuid : book.uuid ≡ planned.uuid
  pub offset : book.offset ≡ planned.offset
  pub mode : book.mode ≡ planned.mode
  pub channels : book.channels ≡ planned.channels
  pub threads : book.threads ≡ planned.threads
  pub events : book.events ≡ planned.events

-- the desk of a plan: it has a seat of each stream's consumed records, the whole seat of its cuts, which says how many
-- chunks of the stream are closed, and the whole seat of its cleared records
pub record IsDesk (plan : PlanState) (book : SessionBookState) (consumed cuts cleared : List SeatState) : Type 0 where
  pub planned : IsPlan plan
  pub book_is : IsOfPlan plan.session.book book
  pub consumed_are : AreSeatsOf (consumed_books plan.books) consumed
  pub cuts_are : AreSeatsOf (cut_books plan.books) cuts
  pub cleared_are : AreSeatsOf (cleared_books plan.books) cleared
  pub operator : (i : ℕ) → i < length plan.books → slice_index (amounts_of cuts) i ≡ chunks_closed i book

-- a drainer is begun, with no seat yet, unless as many were as are allowed
abbrev pub desk_begin_answer : DeskState → Result ℕ SessionFault
desk_begin_answer desk = if nat_le MOST_DRAINERS desk.drainers then Err TooMany else Ok 0

abbrev pub desk_after_begin : DeskState → DeskState
desk_after_begin desk =
    if nat_le MOST_DRAINERS desk.drainers then desk else record desk { drainers = desk.drainers + 1 }
