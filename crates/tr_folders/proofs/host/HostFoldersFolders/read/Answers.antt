use Rattle.std.proofs.Common.{arith}
use Rattle.std.proofs.lemmas.Grind.{common_steps}
use Rattle.tr_folders.proofs.host.HostFoldersFolders.read.Goals as goal

pub returns-then-count-self-clause-failures : goal.returns-then-count-self-clause-failures
returns-then-count-self-clause-failures g c = grind (arith, common_steps)

pub returns-clause-reads : goal.returns-clause-reads
returns-clause-reads g c = grind (arith, common_steps)
