use Rattle.std.proofs.Common.{◌≡◌, ◌++◌, drop}
use Rattle.tr_metadata.specs.Reader.{ranges_from}
use Rattle.tr_metadata.proofs.classes.ranges_of.Given as goal

abbrev pub invariant-loop-event : goal.invariant-loop-event
invariant-loop-event g l = l.ranges.items ++ ranges_from l.from (drop l.event-index l.events) ≡ ranges_from 0 l.events
