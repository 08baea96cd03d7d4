use Rattle.std.proofs.Common.{refl}
use Rattle.tr_session.proofs.CallLemmas.{stepped}
use Rattle.tr_session.proofs.StreamLemmas.{schedule-same}
use Rattle.tr_session.proofs.session.Session.set_schedule.Goals as goal

pub invariant_of-self : goal.invariant_of-self
invariant_of-self g c = stepped c.self.inside.book c.set_schedule.new.self _ c.self.inside.streams.items
    c.self.inside.streams.items c.set_schedule.ensures.after (schedule-same c.args.schedule c.self.inside.book)
    c.self.invariant refl
