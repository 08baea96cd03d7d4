use Rattle.std.proofs.Common.{arith}
use Rattle.std.proofs.lemmas.Grind.{common_steps}
use Rattle.tr_folders.proofs.memory.MemoryFoldersFolders.open.Goals as goal

pub returns-then-eq-clause-opens : goal.returns-then-eq-clause-opens
returns-then-eq-clause-opens c = grind (arith, common_steps)

pub loop-home-preserved : goal.loop-home-preserved
loop-home-preserved c = grind (arith, common_steps)

pub returns-clause-opens : goal.returns-clause-opens
returns-clause-opens c = grind (arith, common_steps)
