use Rattle.tr_shared.proofs.RotationLemmas.{rotation-cuts}
use Rattle.tr_shared.proofs.laws.every_rotation.Goals as goal

pub returns : goal.returns
returns c = rotation-cuts
