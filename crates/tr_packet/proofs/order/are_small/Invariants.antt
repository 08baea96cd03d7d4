use Rattle.std.proofs.Common.{◌≡◌, ◌≤◌, take}
use Rattle.std.specs.List.{AllByRecursion}
use Rattle.tr_record.specs.Records.{Fits}
use Rattle.tr_record.specs.Weight.{weight_of}
use Rattle.tr_packet.proofs.order.are_small.Given as goal
use Rattle.tr_terms.specs.declared.limits.TheConstants.{LARGEST_PACKET}

abbrev pub invariant-loop-r : goal.invariant-loop-r
invariant-loop-r g l = record {
  weight : l.weight ≡ weight_of (take l.r-index l.records);
  small : l.weight ≤ LARGEST_PACKET;
  fits : AllByRecursion Fits (take l.r-index l.records);
}
