use Rattle.std.proofs.Common.{arith}
use Rattle.std.proofs.lemmas.Grind.{common_steps}
use Rattle.tr_command.proofs.commands.offer_request.Goals as goal

pub returns-in_err-fill : goal.returns-in_err-fill
returns-in_err-fill c = grind (arith, common_steps)
