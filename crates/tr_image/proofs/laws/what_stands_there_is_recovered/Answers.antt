use Rattle.tr_image.proofs.LawLemmas.{stood_for}
use Rattle.tr_image.proofs.laws.what_stands_there_is_recovered.Goals as goal

pub returns : goal.returns
returns c = stood_for
