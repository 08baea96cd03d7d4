use Rattle.tr_replies.proofs.ColumnLemmas.{right_11}
use Rattle.tr_replies.proofs.status.push_last.Goals as goal

pub returns-in-Ok : goal.returns-in-Ok
returns-in-Ok g c = rw (c.laid_out.ensures, right_11, c.laid_out-2.ensures, right_11, c.laid_out-3.ensures, right_11) at c.in-Ok.ensures.bytes
