use Rattle.tr_accounts.proofs.LogLemmas.{agrees, logs-offer}
use Rattle.tr_accounts.proofs.laws.every_log.Goals as goal

pub returns-clause-agrees : goal.returns-clause-agrees
returns-clause-agrees g c item offers s holds = agrees item offers s holds

pub returns-clause-grows : goal.returns-clause-grows
returns-clause-grows g c item steps log moment id payload told was = logs-offer item steps log moment id payload told was
