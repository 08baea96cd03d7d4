use Rattle.tr_image.proofs.LawLemmas.{all_recovered}
use Rattle.tr_image.proofs.laws.what_is_recovered_stands_there.Goals as goal

pub returns : goal.returns
returns c = all_recovered
