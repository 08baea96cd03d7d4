use denote.Param.Send.{IsSend}
use Rattle.tr_held.proofs.Handles.{stream_cell}
use Rattle.tr_held.proofs.Sending.{handle_send}
use Rattle.tr_held.proofs.Sent.{stream}
use Rattle.tr_held.specs.contracts.stream_cell.StreamCell.{the_row}

pub send : IsSend the_row
send = handle_send stream_cell stream
