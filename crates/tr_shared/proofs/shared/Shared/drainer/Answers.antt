use Rattle.std.proofs.Common.{arith}
use Rattle.std.proofs.lemmas.Grind.{common_steps}
use Rattle.tr_shared.proofs.shared.Shared.drainer.Goals as goal

pub returns-in_err-begun-2-clause-refused : goal.returns-in_err-begun-2-clause-refused
returns-in_err-begun-2-clause-refused g c = grind (arith, common_steps)
