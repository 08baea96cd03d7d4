use Rattle.std.proofs.Common.{sym}
use Rattle.tr_events.proofs.FoundLemmas.{exact_so}
use Rattle.tr_events.proofs.ids.known_of.Goals as goal

pub returns-in-Some-size : goal.returns-in-Some-size
returns-in-Some-size g c =
    exact_so c.args.events.now c.args.id c.in-Some-size.size c.in-Some.event.now (sym c.in-Some.ensures) c.in-Some-size.ensures
