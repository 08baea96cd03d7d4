use Rattle.std.proofs.Common.{◌≡◌, None}
use Rattle.tr_packet.specs.Order.{last_serial_after}
use Rattle.tr_packet.proofs.view.last_serial_of.Given as goal

-- with the records that are left, the last one is the last of all
abbrev pub invariant-loop-r : goal.invariant-loop-r
invariant-loop-r l = last_serial_after l.last l.r-iterator ≡ last_serial_after None l.fn.records
