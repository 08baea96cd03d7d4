-- What an audit's calls answer.
use Rattle.std.specs.Prelude.{◌≡◌, ℕ, ◌+◌, ◌-◌, ◌^◌, ◌≤◌, min, List, [], ◌∷◌, ◌++◌, map, sum, unwrap_or, Option, Some, None}
use Rattle.tr_border.specs.Codes.{code_number}
use Rattle.tr_border.specs.declared.audits.AuditedOut.{AuditedOut}
use Rattle.tr_chunk.specs.Audit.{AreAudited, all_of, audit_of}
use Rattle.tr_chunk.specs.Faults.{audit_cause_code}
use Rattle.tr_chunk.specs.Reading.{HasRead, Reading, ReaderStopsAt}
use Rattle.tr_chunk.specs.declared.audit_fault.AuditCause.{AuditCause}
use Rattle.tr_chunk.specs.declared.audit_fault.AuditCause.TheVariants.{Packet}
use Rattle.tr_chunk.specs.declared.audit_fault.AuditFault.{AuditFault}
use Rattle.tr_chunk.specs.declared.stream_audit.StreamAudit.{StreamAudit}
use Rattle.tr_packet.specs.Packets.{Contents}
use Rattle.tr_packet.specs.Faults.{packet_fault_code}

abbrev pub fault_code : AuditFault → List ℕ
fault_code f = audit_cause_code f.cause

-- the digits of the packet's fault, if that is the cause
abbrev pub packet_out : AuditCause → ℕ
packet_out (Packet fault) = code_number (packet_fault_code fault)
packet_out other = 0

-- where the audit stopped; nothing is counted then
abbrev pub flaw_out : AuditFault → AuditedOut
flaw_out f = record {
  packets = 0;
  records = 0;
  absent = 0;
  last_lost = 0;
  last_seq = 0;
  last_serial = 0;
  piece = f.piece;
  offset = f.offset;
  packet = packet_out f.cause;
}

-- where the audit stopped, if it did
abbrev pub flaw_given : Option AuditFault → AuditedOut → AuditedOut
flaw_given None before = before
flaw_given (Some f) before = flaw_out f

-- how many numbers are absent in all, or the greatest 64-bit number
abbrev pub absent_of : List (ℕ × ℕ) → ℕ
absent_of gaps = min (sum (map (λ (gap : ℕ × ℕ). gap.1) gaps)) (2 ^ 64 - 1)

abbrev pub audited_out : {A : Type 0} → StreamAudit A → AuditedOut
audited_out a = record {
  packets = a.packets;
  records = a.records;
  absent = absent_of a.gaps;
  last_lost = a.last_lost;
  last_seq = unwrap_or a.last_seq 0;
  last_serial = unwrap_or a.last_serial 0;
  piece = 0;
  offset = 0;
  packet = 0;
}

-- a reader has read these bytes more of its piece
pub record HasReadOn {A : Type 0} (bytes : List ℕ) (r after : Reading A) : Type 0 where
  pub reads : (uuid : List ℕ) (stream : ℕ) (done : List (List ℕ)) (piece : List ℕ) → HasRead uuid stream done piece r
      → HasRead uuid stream done (piece ++ bytes) after

-- a reader's piece is done, and the next one is begun
pub record HasReadPiece {A : Type 0} (r after : Reading A) : Type 0 where
  pub reads : (uuid : List ℕ) (stream : ℕ) (done : List (List ℕ)) (piece : List ℕ) → HasRead uuid stream done piece r
      → HasRead uuid stream (done ++ piece ∷ []) [] after

-- these are the numbers of the audit of all that a reader has read
pub record IsFound {A : Type 0} (r : Reading A) (out : AuditedOut) : Type 0 where
  pub found : (uuid : List ℕ) (stream : ℕ) (done : List (List ℕ)) (piece : List ℕ) → HasRead uuid stream done piece r
      → (pss : List (List Contents)) × AreAudited uuid stream (done ++ piece ∷ []) pss
      × (out ≡ audited_out {A = A} (audit_of (all_of pss)))

-- a reader stops at this fault in all that it has read
pub record StopsAtEnd {A : Type 0} (r : Reading A) (fault : AuditFault) : Type 0 where
  pub stops : (uuid : List ℕ) (stream : ℕ) (done : List (List ℕ)) (piece : List ℕ) → HasRead uuid stream done piece r
      → ReaderStopsAt uuid stream (done ++ piece ∷ []) fault
