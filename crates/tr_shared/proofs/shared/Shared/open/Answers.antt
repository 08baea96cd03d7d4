use Rattle.std.proofs.Common.{arith}
use Rattle.std.proofs.lemmas.Grind.{common_steps}
use Rattle.tr_shared.proofs.shared.Shared.open.Goals as goal

pub push_reserved-requires : goal.push_reserved-requires
push_reserved-requires g c = grind (arith, common_steps)

pub loop-lock-smaller : goal.loop-lock-smaller
loop-lock-smaller g c = grind (arith, common_steps)

pub loop-lock-preserved : goal.loop-lock-preserved
loop-lock-preserved g c = grind (arith, common_steps)

pub from_parts-opened-requires-clause-slots : goal.from_parts-opened-requires-clause-slots
from_parts-opened-requires-clause-slots g c = grind (arith, common_steps)

pub returns-clause-slots : goal.returns-clause-slots
returns-clause-slots g c = grind (arith, common_steps)

pub returns-clause-locks : goal.returns-clause-locks
returns-clause-locks g c = grind (arith, common_steps)
