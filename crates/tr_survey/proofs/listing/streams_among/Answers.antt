use Rattle.std.proofs.Common.{arith}
use Rattle.std.proofs.lemmas.Grind.{common_steps}
use Rattle.tr_survey.proofs.listing.streams_among.Goals as goal

pub loop-archive-preserved : goal.loop-archive-preserved
loop-archive-preserved g c = grind (arith, common_steps)

pub returns-clause-streams : goal.returns-clause-streams
returns-clause-streams g c = grind (arith, common_steps)
