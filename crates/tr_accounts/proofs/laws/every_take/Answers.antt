use Rattle.tr_accounts.proofs.TakeLemmas.{all-rise, all-were, own-rise, own-were}
use Rattle.tr_accounts.proofs.laws.every_take.Goals as goal

pub returns-clause-rise : goal.returns-clause-rise
returns-clause-rise c = all-rise

pub returns-clause-were : goal.returns-clause-were
returns-clause-were c = all-were

pub returns-clause-own_rise : goal.returns-clause-own_rise
returns-clause-own_rise c = own-rise

pub returns-clause-own_were : goal.returns-clause-own_were
returns-clause-own_were c = own-were
