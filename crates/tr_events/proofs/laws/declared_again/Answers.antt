use Rattle.tr_events.proofs.DeclaredLemmas.{declared_again}
use Rattle.tr_events.proofs.laws.declared_again.Goals as goal

pub returns : goal.returns
returns c = declared_again
