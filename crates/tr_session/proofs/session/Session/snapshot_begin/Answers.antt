use Rattle.std.proofs.Common.{refl}
use Rattle.tr_session.proofs.CallLemmas.{stepped}
use Rattle.tr_session.proofs.StreamLemmas.{snapshot-same}
use Rattle.tr_session.proofs.session.Session.snapshot_begin.Goals as goal

pub invariant_of-self : goal.invariant_of-self
invariant_of-self g c = stepped c.self.inside.book c.snapshot_begin.new.self _ c.self.inside.streams.items
    c.self.inside.streams.items c.snapshot_begin.ensures.after (snapshot-same c.args.moment c.self.inside.book)
    c.self.invariant refl
