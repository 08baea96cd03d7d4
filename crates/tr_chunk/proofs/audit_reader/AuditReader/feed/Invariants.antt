use Rattle.std.proofs.Common.{◌-◌, length}
use Rattle.tr_chunk.proofs.ReadingLemmas.{Fed}
use Rattle.tr_chunk.proofs.audit_reader.AuditReader.feed.Given as goal

abbrev pub invariant-loop-at : goal.invariant-loop-at
invariant-loop-at g l = Fed l.initial.self l.self l.bytes l.at

abbrev pub decreases-loop-at : goal.decreases-loop-at
decreases-loop-at g l = length l.bytes - l.at
