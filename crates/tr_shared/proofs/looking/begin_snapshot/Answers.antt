use Rattle.tr_shared.proofs.ModeLemmas.{snap-mode}
use Rattle.tr_shared.proofs.looking.begin_snapshot.Goals as goal

pub returns-clause-mode : goal.returns-clause-mode
returns-clause-mode g c =
    snap-mode g.N.Names.plan.session.book.mode _ c.args.moment _ c.shows_plan.ensures.1.mode
    c.snapshot_begin_by.ensures.answer
