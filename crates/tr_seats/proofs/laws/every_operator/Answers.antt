use Rattle.tr_seats.proofs.HistoryLemmas.{each-operated, each-operator, settled-operated}
use Rattle.tr_seats.proofs.laws.every_operator.Goals as goal

pub returns-clause-book : goal.returns-clause-book
returns-clause-book c = each-operator

pub returns-clause-streams : goal.returns-clause-streams
returns-clause-streams c = settled-operated

pub returns-clause-operated : goal.returns-clause-operated
returns-clause-operated c = each-operated
