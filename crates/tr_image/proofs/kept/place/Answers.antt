use Rattle.std.proofs.Common.{◌∙◌, ◌<◌, ◌++◌, ◌∷◌, ap, arith, drop, length, refl, suc, sym, take}
use Rattle.tr_packet.specs.Packets.{Contents}
use Rattle.tr_image.proofs.KeptLemmas.{is_set, more_records, no_more_records, same_place}
use Rattle.tr_image.proofs.kept.place.Goals as goal
use Rattle.tr_image.proofs.kept.place.Goals.{then-loop-at-test+else-comes_before, else-loop-at-test}

pub returns-then-count-clause-ok : goal.returns-then-count-clause-ok
returns-then-count-clause-ok g c =
    let kept = c.args.kept.now.items in
    let within : c.loop-at.at < length c.args.kept.now.items = omega (arith, c.in-Some.ensures.variant.0 refl, c.args.kept.now.ok) in
    elim c.loop-at-test.branch [
      | then-loop-at-test+else-comes_before w ↦
          is_set kept c.loop-at.at c.args.packet _ within
          (same_place c.args.packet c.in-Some.same.now w.index.result.now kept c.loop-at.at within c.in-Some.ensures.value w.index.ensures
          c.loop-at.invariant.placed (sym w.comes_before.ensures ∙ w.if-comes_before.false) (sym c.if-not-comes_before.ensures)
          ∙ ap (λ (x : Contents). take c.loop-at.at kept ++ x ∷ drop (suc c.loop-at.at) kept)
          (more_records c.args.packet c.in-Some.same.now (omega (arith, c.if-count.true, c.count.ensures.value, c.count-in-Some.ensures.value))))
      | else-loop-at-test w ↦ absurd (omega (arith, within, w.loop-at-test.false, c.len.ensures))
    ]

pub returns-else-count-clause-ok : goal.returns-else-count-clause-ok
returns-else-count-clause-ok g c =
    let kept = c.args.kept.now.items in
    let within : c.loop-at.at < length c.args.kept.now.items = omega (arith, c.in-Some.ensures.variant.0 refl, c.args.kept.now.ok) in
    elim c.loop-at-test.branch [
      | then-loop-at-test+else-comes_before w ↦
          is_set kept c.loop-at.at c.in-Some.same.now _ within
          (same_place c.args.packet c.in-Some.same.now w.index.result.now kept c.loop-at.at within c.in-Some.ensures.value w.index.ensures
          c.loop-at.invariant.placed (sym w.comes_before.ensures ∙ w.if-comes_before.false) (sym c.if-not-comes_before.ensures)
          ∙ ap (λ (x : Contents). take c.loop-at.at kept ++ x ∷ drop (suc c.loop-at.at) kept)
          (no_more_records c.args.packet c.in-Some.same.now (omega (arith, c.if-count.false, c.count.ensures.value, c.count-in-Some.ensures.value))))
      | else-loop-at-test w ↦ absurd (omega (arith, within, w.loop-at-test.false, c.len.ensures))
    ]
