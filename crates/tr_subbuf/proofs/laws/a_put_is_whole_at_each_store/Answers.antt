use Rattle.tr_subbuf.proofs.StoreLemmas.{put-whole}
use Rattle.tr_subbuf.proofs.laws.a_put_is_whole_at_each_store.Goals as goal

pub returns : goal.returns
returns c = put-whole
