use Rattle.std.proofs.Common.{◌≡◌}
use Rattle.tr_session.proofs.ListLemmas.{changed_before}
use Rattle.tr_session.proofs.streams.switch.Given as goal
use Rattle.tr_stream.specs.StateSteps.{state_after_switch}

abbrev pub invariant-each : goal.invariant-each
invariant-each g l = l.streams.items ≡ changed_before l.i (state_after_switch l.fn.active) l.initial.streams.items
