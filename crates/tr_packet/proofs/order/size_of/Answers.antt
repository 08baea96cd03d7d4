use Rattle.std.proofs.Common.{arith}
use Rattle.std.proofs.lemmas.Grind.{common_steps}
use Rattle.tr_packet.proofs.order.size_of.Goals as goal

pub overflow_add-size : goal.overflow_add-size
overflow_add-size g c = grind (arith, common_steps)

pub loop-r-preserved : goal.loop-r-preserved
loop-r-preserved g c = grind (arith, common_steps)

pub returns : goal.returns
returns g c = grind (arith, common_steps)
