use Rattle.tr_recorded.proofs.LossLemmas.{recorded}
use Rattle.tr_recorded.proofs.laws.every_stream_is_recorded.Goals as goal

pub returns : goal.returns
returns g c archives within none = recorded c.args.stream.now archives none c.config.ensures.kept c.config.ensures.consistent
