use Rattle.std.proofs.Common.{refl}
use Rattle.tr_session.proofs.CallLemmas.{stepped}
use Rattle.tr_session.proofs.StreamLemmas.{finished-same}
use Rattle.tr_session.proofs.session.Session.rotate_finish.Goals as goal

pub invariant_of-self : goal.invariant_of-self
invariant_of-self g c = stepped c.self.inside.book c.rotate_finish.new.self _ c.self.inside.streams.items
    c.self.inside.streams.items c.rotate_finish.ensures.after (finished-same c.self.inside.book) c.self.invariant refl
