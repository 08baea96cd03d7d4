use Rattle.std.proofs.Common.{◌≡◌, ◌-◌, ◌≤◌, ◌++◌, length, take, drop}
use Rattle.tr_image.specs.Kept.{placed}
use Rattle.tr_image.proofs.kept.place.Given as goal

abbrev pub invariant-loop-at : goal.invariant-loop-at
invariant-loop-at g l = record {
  within : l.at ≤ length l.kept.items;
  same : l.kept.items ≡ l.initial.kept.items;
  packet : l.packet ≡ l.initial.packet;
  placed : placed l.packet l.kept.items ≡ take l.at l.kept.items ++ placed l.packet (drop l.at l.kept.items);
}

abbrev pub decreases-loop-at : goal.decreases-loop-at
decreases-loop-at g l = length l.kept.items - l.at
