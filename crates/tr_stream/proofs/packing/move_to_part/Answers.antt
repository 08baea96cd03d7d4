use Rattle.std.proofs.Common.{◌+◌, ◌^◌, ◌<◌, ap, length, subst, sym, ◌∙◌}
use Rattle.tr_book.specs.Parts.{PartState, part_with, records_of, with_part}
use Rattle.tr_packet.specs.Packets.{Contents}
use Rattle.tr_stream.proofs.PageLemmas.{few-first}
use Rattle.tr_stream.proofs.packing.move_to_part.Goals as goal

pub push-requires-clause-few : goal.push-requires-clause-few
push-requires-clause-few g c =
    subst (λ (part : PartState). records_of part.packets + length c.in-Ok.packet.records < 2 ^ 64)
    (sym c.in_ok-open.ensures.part.0)
    (few-first c.args.config.now c.args.ring.now.waiting c.in-Ok.packet (records_of c.args.parts.now.current.packets) c.requires.some
    c.in-Ok.ensures.packet c.requires.few)

pub returns-in-Ok-clause-parts : goal.returns-in-Ok-clause-parts
returns-in-Ok-clause-parts g c = λ b first.
    c.put_back.ensures
    ∙ ap (λ (part : PartState). with_part part c.take_current.new.self) (c.push.ensures
    ∙ ap (part_with c.in-Ok.packet) c.in_ok-open.ensures.part.0
    ∙ ap (λ (p : Contents). part_with p c.args.parts.now.current) (c.in-Ok.ensures.packet b first))
    ∙ ap (with_part _) c.in_ok-open.ensures.ok
