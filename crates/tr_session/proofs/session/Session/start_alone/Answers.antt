use Rattle.std.proofs.Common.{refl}
use Rattle.tr_session.proofs.CallLemmas.{stepped}
use Rattle.tr_session.proofs.StreamLemmas.{started-same}
use Rattle.tr_session.proofs.session.Session.start_alone.Goals as goal

pub invariant_of-self : goal.invariant_of-self
invariant_of-self g c = stepped c.self.inside.book c.start.new.self _ c.self.inside.streams.items
    c.self.inside.streams.items c.start.ensures.after (started-same c.args.moment c.self.inside.book) c.self.invariant refl
