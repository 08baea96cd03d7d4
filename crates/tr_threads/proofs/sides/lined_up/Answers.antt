use Rattle.std.proofs.Common.{arith}
use Rattle.std.proofs.lemmas.Grind.{common_steps}
use Rattle.tr_threads.proofs.sides.lined_up.Goals as goal

pub push_reserved-requires : goal.push_reserved-requires
push_reserved-requires g c = grind (arith, common_steps)

pub drainers-smaller : goal.drainers-smaller
drainers-smaller g c = grind (arith, common_steps)

pub drainers-preserved : goal.drainers-preserved
drainers-preserved g c = grind (arith, common_steps)

pub push_reserved-requires-in-Some-pop : goal.push_reserved-requires-in-Some-pop
push_reserved-requires-in-Some-pop g c = grind (arith, common_steps)

pub producers-smaller : goal.producers-smaller
producers-smaller g c = grind (arith, common_steps)

pub producers-preserved : goal.producers-preserved
producers-preserved g c = grind (arith, common_steps)
