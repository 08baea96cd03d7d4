use Rattle.std.proofs.Common.{arith}
use Rattle.std.proofs.lemmas.Grind.{common_steps}
use Rattle.tr_shared.proofs.rotating.cut_next.Goals as goal

pub returns-in-Err-Session-clause-refused : goal.returns-in-Err-Session-clause-refused
returns-in-Err-Session-clause-refused g c = grind (arith, common_steps)

pub returns-in-Err : goal.returns-in-Err
returns-in-Err g c = grind (arith, common_steps)
