use Rattle.std.proofs.Common.{◌≡◌, ◌≤◌, ◌-◌, ◌++◌, drop, length, take}
use Rattle.tr_events.specs.Lines.{placed}
use Rattle.tr_events.proofs.lines.place.Given as goal

abbrev pub invariant-loop-at : goal.invariant-loop-at
invariant-loop-at l = record {
  within : l.at ≤ length l.events.items;
  rest : take l.at l.events.items ++ placed l.event (drop l.at l.events.items) ≡ placed l.event l.events.items;
}

abbrev pub decreases-loop-at : goal.decreases-loop-at
decreases-loop-at l = length l.events.items - l.at
