use denote.Param.Send.{IsSend}
use Rattle.tr_held.proofs.Handles.{spares_cell}
use Rattle.tr_held.proofs.Sending.{handle_send}
use Rattle.tr_held.proofs.Sent.{spares}
use Rattle.tr_held.specs.contracts.spares_cell.SparesCell.{the_row}

pub send : IsSend the_row
send = handle_send spares_cell spares
