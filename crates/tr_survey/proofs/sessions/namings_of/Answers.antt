use Rattle.std.proofs.Common.{arith}
use Rattle.std.proofs.lemmas.Grind.{common_steps}
use Rattle.tr_survey.proofs.sessions.namings_of.Goals as goal

pub returns-clause-namings : goal.returns-clause-namings
returns-clause-namings g c = grind (arith, common_steps)
