use Rattle.tr_image.proofs.LawLemmas.{in_order}
use Rattle.tr_image.proofs.laws.what_is_recovered_is_in_order.Goals as goal

pub returns : goal.returns
returns c = in_order
