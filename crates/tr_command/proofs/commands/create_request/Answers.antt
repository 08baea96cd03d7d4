use Rattle.std.proofs.Common.{arith}
use Rattle.std.proofs.lemmas.Grind.{common_steps}
use Rattle.tr_command.proofs.commands.create_request.Goals as goal

pub returns-in_err-offset : goal.returns-in_err-offset
returns-in_err-offset c = grind (arith, common_steps)

pub returns : goal.returns
returns c = grind (arith, common_steps)
