-- A clear of a stream under its lock, as its session's desk allows it.
use Rattle.std.specs.Prelude.{ℕ, ◌+◌, ◌==◌, Result, Ok, Err, slice_index, slice_set, if◌then◌else◌}
use Rattle.tr_ledger.specs.Ledgers.{SeatState}
use Rattle.tr_seats.specs.Desks.{DeskState}
use Rattle.tr_seats.specs.Slots.{SlotState}
use Rattle.tr_session.specs.Steps.{clear_as_session, if_allowed}
use Rattle.tr_session_book.specs.BookSteps.{book_clear_answer, unless_refused}
use Rattle.tr_session_book.specs.declared.faults.SessionFault.{SessionFault}
use Rattle.tr_session_book.specs.declared.faults.SessionFault.TheVariants.{Misplaced}
use Rattle.tr_stream.specs.StateSteps.{state_after_clear, state_clear_answer}
use Rattle.tr_stream.specs.declared.answers.ClearFault.{ClearFault}
use Rattle.tr_stream.specs.declared.answers.Cleared.{Cleared}

-- the stream of this number is cleared, if the book allows it; another stream is refused, before all else
abbrev pub desk_clear_answer : ℕ → DeskState → SlotState → Result Cleared SessionFault
desk_clear_answer i desk slot =
    if i == slot.number
    then if_allowed (book_clear_answer desk.book) (clear_as_session (state_clear_answer slot.stream))
    else Err Misplaced

abbrev pub slot_after_clear : ℕ → DeskState → SlotState → SlotState
slot_after_clear i desk slot =
    if i == slot.number
    then record slot { stream = unless_refused (book_clear_answer desk.book) (state_after_clear slot.stream) slot.stream }
    else slot

-- what an answer does to the desk: its seat of the stream's cleared records rises by those that were removed
abbrev pub desk_after_clear : Result Cleared SessionFault → ℕ → DeskState → DeskState
desk_after_clear (Ok done) i desk = record desk {
  cleared = slice_set desk.cleared i (slice_index desk.cleared i + done.records);
}
desk_after_clear (Err fault) i desk = desk

abbrev pub seat_after_clear : Result Cleared ClearFault → SeatState → SeatState
seat_after_clear (Ok done) seat = record seat { amount = seat.amount + done.records }
seat_after_clear (Err fault) seat = seat
