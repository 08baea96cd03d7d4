use Rattle.std.proofs.Common.{None, ap, ◌∙◌}
use Rattle.tr_packet.specs.Order.{last_serial_after}
use Rattle.tr_packet.proofs.SealLemmas.{has_last}
use Rattle.tr_packet.proofs.view.PacketView.last_serial.Goals as goal

pub unreachable-requires : goal.unreachable-requires
unreachable-requires c = has_last c.args.self.now c.records.ensures.packet (c.in-None.ensures ∙ ap (last_serial_after None) c.records.ensures.value)
