use Rattle.tr_seats.proofs.ClearLemmas.{clear-after, clear-answer}
use Rattle.tr_seats.proofs.laws.every_clear.Goals as goal

pub returns-clause-answer : goal.returns-clause-answer
returns-clause-answer c = clear-answer

pub returns-clause-after : goal.returns-clause-after
returns-clause-after c = clear-after
