use Rattle.tr_subbuf.proofs.StoreLemmas.{emptied}
use Rattle.tr_subbuf.proofs.laws.an_empty_page_shows_nothing.Goals as goal

pub returns : goal.returns
returns c = emptied
