use Rattle.std.proofs.Common.{arith}
use Rattle.std.proofs.lemmas.Grind.{common_steps}
use Rattle.tr_replies.proofs.snapshots.push_stream.Goals as goal

pub packets-init : goal.packets-init
packets-init g c = grind (arith, common_steps)

pub packets-preserved : goal.packets-preserved
packets-preserved g c = grind (arith, common_steps)
