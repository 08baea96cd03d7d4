use Rattle.tr_subbuf.proofs.StoreLemmas.{begin-whole}
use Rattle.tr_subbuf.proofs.laws.a_first_record_is_whole_at_each_store.Goals as goal

pub returns : goal.returns
returns c = begin-whole
