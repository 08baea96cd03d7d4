use denote.Param.Send.{IsSend}
use Rattle.tr_held.proofs.Handles.{events_cell}
use Rattle.tr_held.proofs.Sending.{handle_send}
use Rattle.tr_held.proofs.Sent.{declared}
use Rattle.tr_held.specs.contracts.events_cell.EventsCell.{the_row}

pub send : IsSend the_row
send = handle_send events_cell declared
