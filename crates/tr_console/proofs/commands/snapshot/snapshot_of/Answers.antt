use Rattle.std.proofs.Common.{arith}
use Rattle.std.proofs.lemmas.Grind.{common_steps}
use Rattle.tr_console.proofs.commands.snapshot.snapshot_of.Goals as goal

pub returns-in_err-push_stream : goal.returns-in_err-push_stream
returns-in_err-push_stream g c = grind (arith, common_steps)

pub streams-preserved : goal.streams-preserved
streams-preserved g c = grind (arith, common_steps)

pub returns : goal.returns
returns g c = grind (arith, common_steps)
