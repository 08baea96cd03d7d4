use Rattle.std.proofs.Common.{◌∙◌, true, false, Some, ap, length, sym, subst}
use Rattle.std.specs.Str.{bytes_eq}
use Rattle.tr_packet.specs.Decoding.{first_fault}
use Rattle.tr_packet.specs.Packets.{IsPacket, contents}
use Rattle.tr_packet.specs.declared.head.Head.{Head}
use Rattle.tr_record.specs.Whole.{entries_of}
use Rattle.tr_packet.specs.Texts.{body_of}
use Rattle.tr_image.proofs.MemoryLemmas.{all_of, flipped, other_fault, other_trace, same_trace}
use Rattle.tr_image.proofs.image.packet_of.Goals as goal

pub returns-in-Err : goal.returns-in-Err
returns-in-Err c =
    sym
    (other_fault c.args.uuid.now c.args.bytes.items c.in-Err.field-0
    (ap first_fault (sym c.deref.ensures.value) ∙ (c.decode_packet.ensures.fault c.in-Err.field-0).0 c.in-Err.is))

pub returns-then-ne : goal.returns-then-ne
returns-then-ne c =
    let all = all_of c.in-Ok.packet _ c.args.bytes.items c.deref.result.now c.requires.small c.requires.size c.deref.ensures.value c.in-Ok.ensures.found.0 in
    sym
    (other_trace c.args.uuid.now c.args.bytes.items c.in-Ok.packet all.is
    (ap (λ (h : Head). bytes_eq h.uuid c.args.uuid.now) (sym c.head.ensures.value) ∙ flipped _ true (sym c.if-ne.ensures)))

pub seal-requires-clause-packet : goal.seal-requires-clause-packet
seal-requires-clause-packet c =
    let all = all_of c.in-Ok.packet _ c.args.bytes.items c.deref.result.now c.requires.small c.requires.size c.deref.ensures.value c.in-Ok.ensures.found.0 in
    subst (λ (h : Head). IsPacket (contents h (entries_of (body_of c.args.bytes.items)))) (sym c.head.ensures.value) all.packet

pub seal-requires-clause-whole : goal.seal-requires-clause-whole
seal-requires-clause-whole c =
    let all = all_of c.in-Ok.packet _ c.args.bytes.items c.deref.result.now c.requires.small c.requires.size c.deref.ensures.value c.in-Ok.ensures.found.0 in
    all.whole

pub seal-requires-clause-count : goal.seal-requires-clause-count
seal-requires-clause-count c =
    let all = all_of c.in-Ok.packet _ c.args.bytes.items c.deref.result.now c.requires.small c.requires.size c.deref.ensures.value c.in-Ok.ensures.found.0 in
    c.count.ensures.value ∙ sym (ap length all.records)

pub returns : goal.returns
returns c =
    let all = all_of c.in-Ok.packet _ c.args.bytes.items c.deref.result.now c.requires.small c.requires.size c.deref.ensures.value c.in-Ok.ensures.found.0 in
    ap Some c.seal.ensures
    ∙ (ap Some (ap (λ (h : Head). contents h (entries_of (body_of c.args.bytes.items))) c.head.ensures.value ∙ ap (contents c.in-Ok.packet.head) all.records)
    ∙ sym
    (same_trace c.args.uuid.now c.args.bytes.items c.in-Ok.packet all.none all.is
    (ap (λ (h : Head). bytes_eq h.uuid c.args.uuid.now) (sym c.head.ensures.value) ∙ flipped _ false (sym c.if-ne.ensures))))
