use Rattle.std.proofs.Common.{refl}
use Rattle.tr_chunk.proofs.AuditLemmas.{front_within}
use Rattle.tr_chunk.proofs.audit.add_front.Goals as goal

pub returns-in-Err-clause-err : goal.returns-in-Err-clause-err
returns-in-Err-clause-err g c = (c.in-Err.ensures.fault c.in-Err.fault).0 refl

pub returns-clause-within : goal.returns-clause-within
returns-clause-within g c = front_within c.in-Ok.front.0 c.in-Ok.front.1 c.args.bytes.now c.in-Ok.ensures.found.0 c.in-Ok.ensures.found.1
