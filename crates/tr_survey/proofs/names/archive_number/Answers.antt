use Rattle.std.proofs.Common.{arith}
use Rattle.std.proofs.lemmas.Grind.{common_steps}
use Rattle.tr_survey.proofs.names.archive_number.Goals as goal

pub returns-then-name-lt-STAMPS : goal.returns-then-name-lt-STAMPS
returns-then-name-lt-STAMPS c = grind (arith, common_steps)

pub returns-then-not-are_stamps : goal.returns-then-not-are_stamps
returns-then-not-are_stamps c = grind (arith, common_steps)

pub returns : goal.returns
returns c = grind (arith, common_steps)
