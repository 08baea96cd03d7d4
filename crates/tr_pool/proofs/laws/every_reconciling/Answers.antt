use Rattle.tr_pool.proofs.FedLemmas.{fed-agree, none-wrong}
use Rattle.tr_pool.proofs.laws.every_reconciling.Goals as goal

pub returns-clause-agree : goal.returns-clause-agree
returns-clause-agree c = fed-agree

pub returns-clause-nothing_wrong : goal.returns-clause-nothing_wrong
returns-clause-nothing_wrong c = none-wrong
