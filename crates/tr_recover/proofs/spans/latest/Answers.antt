use Rattle.std.proofs.Common.{◌+◌, ◌∙◌, List, arith, ap, drop, refl, sym}
use Rattle.std.proofs.lemmas.List.{drop_all}
use Rattle.tr_packet.specs.Packets.{Contents}
use Rattle.tr_packet.specs.declared.head.Head.{Head}
use Rattle.tr_recover.specs.Archive.{latest}
use Rattle.tr_recover.proofs.SpanLemmas.{later, not_later}
use Rattle.tr_recover.proofs.spans.latest.Goals as goal
use Rattle.tr_recover.proofs.spans.latest.Goals.{then-get, else-get}

pub packets-init : goal.packets-init
packets-init g c = refl

pub packets-preserved : goal.packets-preserved
packets-preserved g c =
    let same = ap (λ (h : Head). h.end) c.head-end.ensures.value in
    elim c.if-get.branch [
      | then-get w ↦
          c.packets.invariant
          ∙ (later c.args.packets.now c.packets.packet-index c.packet-item.result c.packets.found c.packets-test.true c.packet-item.is
          (omega (arith, w.if-get.true, c.get.ensures.value, c.get-in-packets.ensures.value, same))
          ∙ ap (λ n. latest n (drop (c.packets.packet-index + 1) c.args.packets.now)) (sym (w.found-is ∙ same)))
      | else-get w ↦
          c.packets.invariant
          ∙ (not_later c.args.packets.now c.packets.packet-index c.packet-item.result c.packets.found c.packets-test.true c.packet-item.is
          (omega (arith, w.if-get.false, c.get.ensures.value, c.get-in-packets.ensures.value, same))
          ∙ ap (λ n. latest n (drop (c.packets.packet-index + 1) c.args.packets.now)) (sym w.found-is))
    ]

pub returns : goal.returns
returns g c =
    sym
    (c.packets.invariant
    ∙ ap (λ (ps : List Contents). latest c.packets.found ps) (drop_all c.packets.packet-index c.args.packets.now c.packets-test.false))
