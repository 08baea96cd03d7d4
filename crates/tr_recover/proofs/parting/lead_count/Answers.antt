use Rattle.std.proofs.Common.{◌∙◌, ap, arith, sym}
use Rattle.tr_packet.specs.declared.head.Head.{Head}
use Rattle.tr_recover.proofs.PartLemmas.{lead_ends, lead_is_last, other_stream}
use Rattle.tr_recover.proofs.parting.lead_count.Goals as goal
use Rattle.tr_recover.proofs.parting.lead_count.Goals.{then-loop-last-test+else-head, else-loop-last-test}

pub returns : goal.returns
returns g c =
    let here = c.loop-last.invariant in
    elim c.loop-last-test.branch [
      | then-loop-last-test+else-head w ↦
          let p = w.index-packets-last.result in
          let q = w.index-packets-last-in-loop-last.result in
          let other =
          other_stream p.head.stream q.head.stream
          (λ same. w.if-head.false (ap (λ (h : Head). h.stream) w.head.ensures.value ∙ same
          ∙ sym (ap (λ (h : Head). h.stream) w.head-in-loop-last.ensures.value))) in
          omega (
            arith,
            here.counts,
            lead_ends c.args.packets.now c.loop-last.last p q w.loop-last-test.true w.index-packets-last.is w.index-packets-last-in-loop-last.is other,
          )
      | else-loop-last-test w ↦
          omega (arith, here.counts, lead_is_last c.args.packets.now c.loop-last.last here.within (omega (arith, w.loop-last-test.false)))
    ]
