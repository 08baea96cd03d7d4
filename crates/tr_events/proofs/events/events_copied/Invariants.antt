use Rattle.std.proofs.Common.{◌≡◌, take}
use Rattle.tr_events.proofs.events.events_copied.Given as goal

abbrev pub invariant-loop-event : goal.invariant-loop-event
invariant-loop-event g l = l.copies.items ≡ take l.event-index l.events
