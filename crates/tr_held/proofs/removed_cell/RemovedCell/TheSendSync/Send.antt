use denote.Param.Send.{IsSend}
use Rattle.tr_held.proofs.Handles.{removed_cell}
use Rattle.tr_held.proofs.Sending.{handle_send}
use Rattle.tr_held.proofs.Sent.{removed}
use Rattle.tr_held.specs.contracts.removed_cell.RemovedCell.{the_row}

pub send : IsSend the_row
send = handle_send removed_cell removed
