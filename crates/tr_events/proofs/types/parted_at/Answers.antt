use Rattle.tr_events.proofs.PartLemmas.{parted}
use Rattle.tr_events.proofs.types.parted_at.Goals as goal

pub returns : goal.returns
returns c = parted c.args.byte c.args.text.now c.split_once.result c.split_once.ensures.cases c.requires
