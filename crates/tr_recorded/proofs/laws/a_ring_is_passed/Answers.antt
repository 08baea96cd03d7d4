use Rattle.tr_recorded.proofs.RingLemmas.{ring-passed}
use Rattle.tr_recorded.proofs.laws.a_ring_is_passed.Goals as goal

pub returns : goal.returns
returns g c = ring-passed c.args.stream.now c.config.ensures.kept.sound c.config.ensures.consistent
