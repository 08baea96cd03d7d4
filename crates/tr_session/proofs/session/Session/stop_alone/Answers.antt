use Rattle.std.proofs.Common.{refl}
use Rattle.tr_session.proofs.CallLemmas.{stepped}
use Rattle.tr_session.proofs.StreamLemmas.{stopped-same}
use Rattle.tr_session.proofs.session.Session.stop_alone.Goals as goal

pub invariant_of-self : goal.invariant_of-self
invariant_of-self g c = stepped c.self.inside.book c.stop.new.self _ c.self.inside.streams.items c.self.inside.streams.items
    c.stop.ensures.after (stopped-same c.self.inside.book) c.self.invariant refl
