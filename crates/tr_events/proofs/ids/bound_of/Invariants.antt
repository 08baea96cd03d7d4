use Rattle.std.proofs.Common.{take}
use Rattle.tr_events.specs.Ids.{IsBound}
use Rattle.tr_events.proofs.ids.bound_of.Given as goal

abbrev pub invariant-loop-event : goal.invariant-loop-event
invariant-loop-event g l = IsBound (take l.event-index l.events) l.bound
