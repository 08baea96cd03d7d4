use Rattle.std.proofs.Common.{arith}
use Rattle.std.proofs.lemmas.Grind.{common_steps}
use Rattle.tr_threads.proofs.sides.told_apart.Goals as goal

pub push_reserved-requires : goal.push_reserved-requires
push_reserved-requires g c = grind (arith, common_steps)

pub seats-smaller-in-Producer : goal.seats-smaller-in-Producer
seats-smaller-in-Producer g c = grind (arith, common_steps)

pub seats-preserved-in-Producer : goal.seats-preserved-in-Producer
seats-preserved-in-Producer g c = grind (arith, common_steps)

pub push_reserved-requires-in-Drainer : goal.push_reserved-requires-in-Drainer
push_reserved-requires-in-Drainer g c = grind (arith, common_steps)

pub seats-smaller : goal.seats-smaller
seats-smaller g c = grind (arith, common_steps)

pub seats-preserved : goal.seats-preserved
seats-preserved g c = grind (arith, common_steps)
