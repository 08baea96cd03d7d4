use Rattle.tr_seats.proofs.HistoryLemmas.{nobodys}
use Rattle.tr_shared.proofs.shared.Shared.settle.Goals as goal

pub returns-in-Ok-clause-histories : goal.returns-in-Ok-clause-histories
returns-in-Ok-clause-histories g c =
    nobodys g.N.Names.plan.session.book c.in-Ok.settled.book c.as_mut_slice-none.result.now c.in-Ok.field-0-2 c.args.producers.items
    c.args.drainers.items c.in-Ok.settled.streams c.in-Ok.ensures.histories
