use denote.Param.Send.{IsSend}
use Rattle.tr_held.proofs.Handles.{snap_cell}
use Rattle.tr_held.proofs.Sending.{handle_send}
use Rattle.tr_held.proofs.Sent.{snap}
use Rattle.tr_held.specs.contracts.snap_cell.SnapCell.{the_row}

pub send : IsSend the_row
send = handle_send snap_cell snap
