use Rattle.tr_metadata.proofs.PacketLemmas.{packets_read}
use Rattle.tr_metadata.proofs.laws.packets_are_read.Goals as goal

pub returns : goal.returns
returns c = packets_read
