use Rattle.tr_events.proofs.ListLemmas.{too_few}
use Rattle.tr_events.proofs.lines.event_in.Goals as goal

pub returns-in-empty : goal.returns-in-empty
returns-in-empty c = too_few c.args.words.now c.in-empty.len_below
