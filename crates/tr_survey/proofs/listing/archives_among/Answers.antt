use Rattle.std.proofs.Common.{arith}
use Rattle.std.proofs.lemmas.Grind.{common_steps}
use Rattle.tr_survey.proofs.listing.archives_among.Goals as goal

pub loop-name-preserved : goal.loop-name-preserved
loop-name-preserved g c = grind (arith, common_steps)

pub returns-clause-archives : goal.returns-clause-archives
returns-clause-archives g c = grind (arith, common_steps)
