use Rattle.tr_recorded.proofs.FoundLemmas.{found-whole}
use Rattle.tr_recorded.proofs.laws.what_is_recovered_is_whole.Goals as goal

pub returns : goal.returns
returns c asked t dir metadata uuid p ps are read shows = found-whole dir metadata uuid p ps are asked t read shows
