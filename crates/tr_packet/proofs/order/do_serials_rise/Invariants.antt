use Rattle.std.proofs.Common.{◌≡◌, drop}
use Rattle.tr_packet.specs.Order.{serials_rise, serials_rise_after}
use Rattle.tr_packet.proofs.order.do_serials_rise.Given as goal

abbrev pub invariant-loop-r : goal.invariant-loop-r
invariant-loop-r g l = serials_rise l.records ≡ serials_rise_after l.before (drop l.r-index l.records)
