use Rattle.tr_seats.proofs.CutLemmas.{cut-after, cut-answer}
use Rattle.tr_seats.proofs.laws.every_cut.Goals as goal

pub returns-clause-answer : goal.returns-clause-answer
returns-clause-answer c = cut-answer

pub returns-clause-after : goal.returns-clause-after
returns-clause-after c = cut-after
