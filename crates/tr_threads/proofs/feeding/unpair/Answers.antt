use Rattle.std.proofs.Common.{arith}
use Rattle.std.proofs.lemmas.Grind.{common_steps}
use Rattle.tr_threads.proofs.feeding.unpair.Goals as goal

pub seats-preserved : goal.seats-preserved
seats-preserved g c = grind (arith, common_steps)
