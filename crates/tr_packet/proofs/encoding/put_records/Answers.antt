use Rattle.std.proofs.Common.{arith}
use Rattle.std.proofs.lemmas.Grind.{common_steps}
use Rattle.tr_packet.proofs.encoding.put_records.Goals as goal

pub put_rec-requires : goal.put_rec-requires
put_rec-requires g c = grind (arith, common_steps)
