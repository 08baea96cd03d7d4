use Rattle.std.proofs.Common.{refl}
use Rattle.tr_session.proofs.CallLemmas.{same-session}
use Rattle.tr_session.proofs.StreamLemmas.{after-one, switch-keeps}
use Rattle.tr_session.proofs.session.Session.switch_stream.Goals as goal
use Rattle.tr_session.specs.Steps.{change_at}
use Rattle.tr_stream.specs.StateSteps.{state_after_switch}

pub invariant_of-self : goal.invariant_of-self
invariant_of-self g c =
    same-session c.self.inside.book c.self.inside.book
    (change_at c.args.i (state_after_switch c.args.active) c.self.inside.streams.items) c.switch_at.new.streams.items
    refl c.switch_at.ensures
    (after-one c.self.inside.book c.self.inside.streams.items c.args.i (state_after_switch c.args.active)
    (switch-keeps c.args.active) c.self.invariant)
