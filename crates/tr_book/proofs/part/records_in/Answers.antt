use Rattle.std.proofs.Common.{arith}
use Rattle.std.proofs.lemmas.Grind.{common_steps}
use Rattle.tr_book.proofs.part.records_in.Goals as goal

pub overflow_add-count : goal.overflow_add-count
overflow_add-count g c = grind (arith, common_steps)

pub loop-packet-preserved : goal.loop-packet-preserved
loop-packet-preserved g c = grind (arith, common_steps)
