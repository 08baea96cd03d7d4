use Rattle.std.proofs.Common.{◌≡◌, take}
use Rattle.tr_record.specs.Weight.{weight_of}
use Rattle.tr_packet.proofs.order.size_of.Given as goal

abbrev pub invariant-loop-r : goal.invariant-loop-r
invariant-loop-r g l = l.size ≡ weight_of (take l.r-index l.records)
