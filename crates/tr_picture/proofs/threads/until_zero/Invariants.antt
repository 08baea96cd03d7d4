use Rattle.std.proofs.Common.{◌≡◌, ◌≤◌, ◌-◌, ◌++◌, drop, length, take}
use Rattle.tr_picture.specs.Threads.{until_zero}
use Rattle.tr_picture.proofs.threads.until_zero.Given as goal

-- the bytes before are no zeros
abbrev pub invariant-loop-at : goal.invariant-loop-at
invariant-loop-at l = record {
  within : l.at ≤ length l.bytes;
  text : until_zero l.bytes ≡ take l.at l.bytes ++ until_zero (drop l.at l.bytes);
}

abbrev pub decreases-loop-at : goal.decreases-loop-at
decreases-loop-at l = length l.bytes - l.at
