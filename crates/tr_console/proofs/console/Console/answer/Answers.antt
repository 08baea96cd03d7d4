use Rattle.std.proofs.Common.{arith}
use Rattle.std.proofs.lemmas.Grind.{common_steps}
use Rattle.tr_console.proofs.console.Console.answer.Goals as goal

pub returns-then-is_skipped_line : goal.returns-then-is_skipped_line
returns-then-is_skipped_line g c = grind (arith, common_steps)

pub returns : goal.returns
returns g c = grind (arith, common_steps)
