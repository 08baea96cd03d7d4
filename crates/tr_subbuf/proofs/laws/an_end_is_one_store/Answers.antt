use Rattle.tr_subbuf.proofs.StoreLemmas.{end-whole}
use Rattle.tr_subbuf.proofs.laws.an_end_is_one_store.Goals as goal

pub returns : goal.returns
returns c = end-whole
