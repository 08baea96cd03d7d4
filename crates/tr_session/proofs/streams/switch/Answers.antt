use Rattle.std.proofs.Common.{◌∙◌, arith}
use Rattle.std.proofs.lemmas.Grind.{common_steps}
use Rattle.tr_session.proofs.ListLemmas.{changed_before-more, changed_before-all}
use Rattle.tr_session.proofs.streams.switch.Goals as goal
use Rattle.tr_stream.specs.State.{StreamState}
use Rattle.tr_stream.specs.StateSteps.{state_after_switch}

pub each-preserved : goal.each-preserved
each-preserved g c =
    let on : StreamState → StreamState = state_after_switch c.args.active in
    changed_before-more on c.each.i c.args.streams.now.items c.each.streams.items _ (omega arith) c.each.invariant c.switch_at.ensures

pub returns : goal.returns
returns g c = c.each.invariant ∙ changed_before-all (state_after_switch c.args.active) c.each.i c.args.streams.now.items (omega arith)

pub switch_at-requires : goal.switch_at-requires
switch_at-requires g c = grind (arith, common_steps)
