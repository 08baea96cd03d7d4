use Rattle.std.proofs.Common.{arith}
use Rattle.std.proofs.lemmas.Grind.{common_steps}
use Rattle.tr_packet.proofs.order.are_small.Goals as goal

pub returns-then-weight-gt-LARGEST_PACKET-clause-small : goal.returns-then-weight-gt-LARGEST_PACKET-clause-small
returns-then-weight-gt-LARGEST_PACKET-clause-small g c = grind (arith, common_steps)

pub loop-r-preserved : goal.loop-r-preserved
loop-r-preserved g c = grind (arith, common_steps)

pub returns-clause-small : goal.returns-clause-small
returns-clause-small g c = grind (arith, common_steps)

pub returns-clause-fits : goal.returns-clause-fits
returns-clause-fits g c = grind (arith, common_steps)
