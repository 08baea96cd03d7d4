-- A cut of a stream under its lock, in the rotation that is pending at the desk.
use Rattle.std.specs.Prelude.{ℕ, ◌+◌, ◌==◌, Result, Ok, Err, slice_index, slice_set, if◌then◌else◌}
use Rattle.tr_ledger.specs.Ledgers.{SeatState}
use Rattle.tr_seats.specs.Desks.{DeskState}
use Rattle.tr_seats.specs.Slots.{SlotState}
use Rattle.tr_session.specs.Steps.{cut_as_step}
use Rattle.tr_session.specs.declared.faults.StepFault.{StepFault}
use Rattle.tr_session.specs.declared.faults.StepFault.TheVariants.{Session}
use Rattle.tr_session_book.specs.Book.{SessionBookState}
use Rattle.tr_session_book.specs.BookSteps.{cut_moment, with_cut}
use Rattle.tr_session_book.specs.declared.faults.SessionFault.{SessionFault}
use Rattle.tr_session_book.specs.declared.faults.SessionFault.TheVariants.{Misplaced}
use Rattle.tr_stream.specs.State.{StreamState}
use Rattle.tr_stream.specs.StateSteps.{state_after_cut, state_cut_answer}
use Rattle.tr_stream.specs.declared.answers.CutDone.{CutDone}
use Rattle.tr_stream.specs.declared.answers.CutFault.{CutFault}

-- a stream is cut at this moment, if it is due
abbrev pub cut_if_due : Result ℕ SessionFault → StreamState → Result CutDone StepFault
cut_if_due (Err fault) stream = Err (Session fault)
cut_if_due (Ok moment) stream = cut_as_step (state_cut_answer moment stream)

abbrev pub stream_after_cut : Result ℕ SessionFault → StreamState → StreamState
stream_after_cut (Err fault) stream = stream
stream_after_cut (Ok moment) stream = state_after_cut moment stream

-- the pending rotation cuts the stream of this number, at its end; another stream is refused, before all else
abbrev pub desk_cut_answer : ℕ → DeskState → SlotState → Result CutDone StepFault
desk_cut_answer i desk slot =
    if i == slot.number then cut_if_due (cut_moment i desk.book) slot.stream else Err (Session Misplaced)

abbrev pub slot_after_cut : ℕ → DeskState → SlotState → SlotState
slot_after_cut i desk slot =
    if i == slot.number then record slot { stream = stream_after_cut (cut_moment i desk.book) slot.stream } else slot

-- what an answer does to the desk: its book notes the cut, and its seats of that stream rise, that of the records by those
-- that the cut moved, and that of the cuts by one
abbrev pub desk_after_cut : Result CutDone StepFault → ℕ → DeskState → DeskState
desk_after_cut (Ok done) i desk = record desk {
  book = with_cut desk.book;
  consumed = slice_set desk.consumed i (slice_index desk.consumed i + done.records);
  cuts = slice_set desk.cuts i (slice_index desk.cuts i + 1);
}
desk_after_cut (Err fault) i desk = desk

-- a cut that was done is noted in the book
abbrev pub book_if_cut : Result CutDone CutFault → SessionBookState → SessionBookState
book_if_cut (Ok done) book = with_cut book
book_if_cut (Err fault) book = book

-- the desk's seats of the stream that is cut
abbrev pub seat_after_cut : Result CutDone CutFault → SeatState → SeatState
seat_after_cut (Ok done) seat = record seat { amount = seat.amount + done.records }
seat_after_cut (Err fault) seat = seat

abbrev pub seat_of_cuts_after : Result CutDone CutFault → SeatState → SeatState
seat_of_cuts_after (Ok done) seat = record seat { amount = seat.amount + 1 }
seat_of_cuts_after (Err fault) seat = seat
