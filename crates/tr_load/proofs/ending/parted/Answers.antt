use Rattle.std.proofs.Common.{arith}
use Rattle.std.proofs.lemmas.Grind.{common_steps}
use Rattle.tr_load.proofs.ending.parted.Goals as goal

pub fed-preserved : goal.fed-preserved
fed-preserved g c = grind (arith, common_steps)

pub returns-clause-logs : goal.returns-clause-logs
returns-clause-logs g c = grind (arith, common_steps)

pub returns-clause-producers : goal.returns-clause-producers
returns-clause-producers g c = grind (arith, common_steps)
