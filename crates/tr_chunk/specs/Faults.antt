-- Why a text isn't written, and why an audit stops, as documents name it.
use Rattle.std.specs.Prelude.{ℕ, List, codes}
use Rattle.tr_chunk.specs.declared.faults.WriteFault.{WriteFault}
use Rattle.tr_chunk.specs.declared.faults.WriteFault.TheVariants as write
use Rattle.tr_chunk.specs.declared.audit_fault.AuditCause.{AuditCause}
use Rattle.tr_chunk.specs.declared.audit_fault.AuditCause.TheVariants as audit

abbrev pub write_fault_code : WriteFault → List ℕ
write_fault_code write.Write = codes "W1"
write_fault_code write.NoMemory = codes "W2"

abbrev pub write_fault_name : WriteFault → List ℕ
write_fault_name write.Write = codes "Write"
write_fault_name write.NoMemory = codes "NoMemory"

abbrev pub audit_cause_code : AuditCause → List ℕ
audit_cause_code (audit.Packet f) = codes "A1"
audit_cause_code audit.NumberRepeat = codes "A2"
audit_cause_code audit.SerialRepeat = codes "A3"
audit_cause_code audit.Foreign = codes "A4"
audit_cause_code audit.NoMemory = codes "A5"

abbrev pub audit_cause_name : AuditCause → List ℕ
audit_cause_name (audit.Packet f) = codes "Packet"
audit_cause_name audit.NumberRepeat = codes "NumberRepeat"
audit_cause_name audit.SerialRepeat = codes "SerialRepeat"
audit_cause_name audit.Foreign = codes "Foreign"
audit_cause_name audit.NoMemory = codes "NoMemory"
