use Rattle.std.proofs.Common.{arith}
use Rattle.std.proofs.lemmas.Grind.{common_steps}
use Rattle.tr_session.proofs.session.Session.into_parts.Goals as goal

pub returns-clause-own : goal.returns-clause-own
returns-clause-own g c = grind (arith, common_steps)
