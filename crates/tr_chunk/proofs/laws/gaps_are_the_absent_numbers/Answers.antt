use Rattle.tr_chunk.proofs.GapLemmas.{absent_numbers, longest_runs}
use Rattle.tr_chunk.proofs.laws.gaps_are_the_absent_numbers.Goals as goal

pub returns-clause-absent : goal.returns-clause-absent
returns-clause-absent c = absent_numbers

pub returns-clause-longest : goal.returns-clause-longest
returns-clause-longest c = longest_runs
