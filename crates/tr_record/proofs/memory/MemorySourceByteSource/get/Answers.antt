use Rattle.std.proofs.Common.{arith}
use Rattle.std.proofs.Math.Seq.{take-add}
use Rattle.std.proofs.lemmas.Grind.{common_steps}
use Rattle.tr_record.proofs.memory.MemorySourceByteSource.get.Goals as goal

pub returns-clause-given : goal.returns-clause-given
returns-clause-given c =
    rw (take-add c.args.self.now.at c.min-count.result c.args.self.now.bytes.now) (grind (arith, common_steps))
