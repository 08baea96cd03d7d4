-- The same three fields.
use Rattle.tr_held.proofs.Handles.{audit_cell, held}
use Rattle.tr_held.proofs.Moved.{moved}
use Rattle.tr_held.proofs.audit_cell.AuditCell.into_held.Code as code
use Rattle.tr_held.proofs.audit_cell.AuditCell.into_held.Statement.{statement}
use Rattle.tr_held.specs.Kept.{audit_row}
use Rattle.tr_held.specs.contracts.audit_cell.AuditCell.into_held.Key.{name as #self}

pub into_held_spec : {M : Type 1} → statement M
into_held_spec 𝓤 𝓛 𝓜 𝓡 wired = moved audit_cell (held audit_row) 𝓤 𝓛 𝓜 𝓡 #self (code.unfolded 𝓤 𝓛.H 𝓜 𝓡 wired)
