use Rattle.std.proofs.Common.{map, refl, true}
use Rattle.tr_session.proofs.CallLemmas.{stepped}
use Rattle.tr_session.proofs.StreamLemmas.{after-each, switch-keeps, started-same}
use Rattle.tr_session.proofs.session.Session.start.Goals as goal
use Rattle.tr_stream.specs.StateSteps.{state_after_switch}

pub invariant_of-self : goal.invariant_of-self
invariant_of-self g c =
    stepped c.self.inside.book c.start.new.self _ (map (state_after_switch true) c.self.inside.streams.items)
    c.switch.new.streams.items c.start.ensures.after (started-same c.args.moment c.self.inside.book)
    (after-each c.self.inside.book c.self.inside.streams.items (state_after_switch true) (switch-keeps true) c.self.invariant) c.switch.ensures

pub invariant_of-self-in-Err : goal.invariant_of-self-in-Err
invariant_of-self-in-Err g c =
    stepped c.self.inside.book c.start.new.self _ c.self.inside.streams.items c.self.inside.streams.items
    c.start.ensures.after (started-same c.args.moment c.self.inside.book) c.self.invariant refl
