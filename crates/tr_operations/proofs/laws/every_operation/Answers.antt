use Rattle.tr_operations.proofs.OperationLemmas.{leads-more, leads-new, operator-of}
use Rattle.tr_operations.proofs.laws.every_operation.Goals as goal

pub returns-clause-new : goal.returns-clause-new
returns-clause-new c = leads-new

pub returns-clause-step : goal.returns-clause-step
returns-clause-step c = leads-more

pub returns-clause-operator : goal.returns-clause-operator
returns-clause-operator c = operator-of
