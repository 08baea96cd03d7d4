use Rattle.tr_metadata.proofs.RecoveryLemmas.{plainly}
use Rattle.tr_metadata.proofs.laws.nothing_declared.Goals as goal

pub returns : goal.returns
returns c = plainly
