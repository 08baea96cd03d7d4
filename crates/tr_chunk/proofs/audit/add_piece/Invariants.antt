use Rattle.std.proofs.Common.{◌-◌, ◌≤◌, List, length}
use Rattle.tr_packet.specs.Packets.{Contents}
use Rattle.tr_chunk.specs.Audit.{Tells}
use Rattle.tr_chunk.proofs.AuditLemmas.{Reached}
use Rattle.tr_chunk.proofs.audit.add_piece.Given as goal

abbrev pub invariant-loop-at : goal.invariant-loop-at
invariant-loop-at g l = record {
  within : l.at ≤ length l.bytes;
  reached : (before : List Contents) → Tells l.uuid l.stream before l.initial.audit → Reached l.uuid l.stream before l.bytes l.at l.audit;
}

abbrev pub decreases-loop-at : goal.decreases-loop-at
decreases-loop-at g l = length l.bytes - l.at
