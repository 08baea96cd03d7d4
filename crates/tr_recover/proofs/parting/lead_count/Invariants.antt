use Rattle.std.proofs.Common.{◌≡◌, ◌<◌, ◌+◌, ◌-◌, drop, length}
use Rattle.tr_recover.specs.Archive.{lead_count}
use Rattle.tr_recover.proofs.parting.lead_count.Given as goal

abbrev pub invariant-loop-last : goal.invariant-loop-last
invariant-loop-last g l = record {
  within : l.last < length l.packets;
  counts : lead_count l.packets ≡ l.last + lead_count (drop l.last l.packets);
}

abbrev pub decreases-loop-last : goal.decreases-loop-last
decreases-loop-last g l = length l.packets - l.last
