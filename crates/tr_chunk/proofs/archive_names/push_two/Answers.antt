use Rattle.tr_chunk.proofs.ArchiveNameLemmas.{two_digits_written}
use Rattle.tr_chunk.proofs.archive_names.push_two.Goals as goal

pub returns : goal.returns
returns g c = rw (two_digits_written c.args.n c.requires) at (rw c.laid_out.ensures at c.write.ensures.bytes)
