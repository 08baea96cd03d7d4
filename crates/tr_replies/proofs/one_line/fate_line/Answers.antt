use Rattle.std.proofs.Common.{arith}
use Rattle.std.proofs.lemmas.Grind.{common_steps}
use Rattle.tr_replies.proofs.one_line.fate_line.Goals as goal

pub returns : goal.returns
returns g c = grind (arith, common_steps)
