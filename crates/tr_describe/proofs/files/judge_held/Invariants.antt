use Rattle.std.proofs.Common.{◌-◌, ◌≤◌, drop, length}
use Rattle.tr_describe.specs.Steps.{AreAlike}
use Rattle.tr_describe.proofs.files.judge_held.Given as goal

abbrev pub invariant-packets : goal.invariant-packets
invariant-packets l = record {
  within : l.at ≤ length l.held.items;
  alike : AreAlike l.rule.events.now l.rule.uuid.now l.rule.stream l.held.items (drop l.at l.held.items);
}

abbrev pub decreases-packets : goal.decreases-packets
decreases-packets l = length l.held.items - l.at
