use Rattle.tr_subbuf.proofs.StoreLemmas.{lost-whole}
use Rattle.tr_subbuf.proofs.laws.a_loss_is_noted_by_one_store.Goals as goal

pub returns : goal.returns
returns c = lost-whole
