use Rattle.std.proofs.Common.{map}
use Rattle.tr_chunk.proofs.AuditLemmas.{Passed}
use Rattle.tr_chunk.proofs.audit.audit_stream.Given as goal

abbrev pub invariant-pieces : goal.invariant-pieces
invariant-pieces g l = Passed l.uuid l.stream (map (λ b. b.now) l.pieces) l.piece l.audit
