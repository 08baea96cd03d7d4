use denote.Param.Send.{IsSend}
use Rattle.tr_held.proofs.Handles.{audit_cell}
use Rattle.tr_held.proofs.Sending.{handle_send}
use Rattle.tr_held.proofs.Sent.{audit}
use Rattle.tr_held.specs.contracts.audit_cell.AuditCell.{the_row}

pub send : IsSend the_row
send = handle_send audit_cell audit
