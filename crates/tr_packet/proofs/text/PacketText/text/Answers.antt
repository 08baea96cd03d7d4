use Rattle.std.proofs.Common.{ap, length, ◌∙◌}
use Rattle.tr_packet.specs.Packets.{packet_size}
use Rattle.tr_packet.specs.Texts.{packet_in}
use Rattle.tr_packet.proofs.SealLemmas.{text_size}
use Rattle.tr_packet.proofs.text.PacketText.text.Goals as goal

pub returns-clause-size : goal.returns-clause-size
returns-clause-size g c =
    ap length c.as_slice.ensures.value ∙ ap length c.self.invariant.is_text
    ∙ (text_size (packet_in c.self.inside.head c.self.inside.bytes.items) c.self.invariant.packet).0
    ∙ ap packet_size c.self.view_is
