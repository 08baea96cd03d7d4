use denote.Param.Send.{IsSend}
use Rattle.tr_held.proofs.Handles.{book_cell}
use Rattle.tr_held.proofs.Sending.{handle_send}
use Rattle.tr_held.proofs.Sent.{book}
use Rattle.tr_held.specs.contracts.book_cell.BookCell.{the_row}

pub send : IsSend the_row
send = handle_send book_cell book
