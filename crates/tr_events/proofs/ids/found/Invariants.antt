use Rattle.std.proofs.Common.{◌≡◌, length}
use Rattle.std.specs.Prelude.{IsTrue}
use Rattle.tr_events.specs.Events.{event_with, ids_rise}
use Rattle.tr_events.proofs.ids.found.Given as goal

abbrev pub invariant-loop-middle : goal.invariant-loop-middle
invariant-loop-middle g l = record {
  rise : IsTrue (ids_rise 0 l.rest);
  same : event_with l.id l.events ≡ event_with l.id l.rest;
}

abbrev pub decreases-loop-middle : goal.decreases-loop-middle
decreases-loop-middle g l = length l.rest
