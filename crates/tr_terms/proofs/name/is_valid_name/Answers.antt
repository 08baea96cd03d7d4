use Rattle.std.proofs.Common.{arith}
use Rattle.std.proofs.lemmas.Grind.{common_steps}
use Rattle.tr_terms.proofs.name.is_valid_name.Goals as goal

pub returns-then-has_name_bytes : goal.returns-then-has_name_bytes
returns-then-has_name_bytes c = grind (arith, common_steps)

pub returns-else-has_name_bytes : goal.returns-else-has_name_bytes
returns-else-has_name_bytes c = grind (arith, common_steps)
