use Rattle.tr_metadata.proofs.RecoveryLemmas.{recovered}
use Rattle.tr_metadata.proofs.laws.declarations_stand.Goals as goal

pub returns : goal.returns
returns c = recovered
