use Rattle.tr_metadata.proofs.PacketLemmas.{files_read}
use Rattle.tr_metadata.proofs.laws.files_are_read.Goals as goal

pub returns : goal.returns
returns c = files_read
