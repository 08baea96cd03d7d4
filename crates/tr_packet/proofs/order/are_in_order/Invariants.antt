use Rattle.std.proofs.Common.{◌≡◌, drop}
use Rattle.tr_packet.specs.Order.{in_order}
use Rattle.tr_packet.proofs.order.are_in_order.Given as goal

abbrev pub invariant-loop-r : goal.invariant-loop-r
invariant-loop-r g l = in_order l.fn.from l.fn.to l.records ≡ in_order l.before l.fn.to (drop l.r-index l.records)
