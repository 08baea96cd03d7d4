use Rattle.std.proofs.Common.{◌≡◌, ap, arith, below_more, get_or, refl, sym, true≢false, ◌∙◌}
use Rattle.std.proofs.lemmas.List.{get_or_default}
use Rattle.tr_seats.proofs.settling.are_in_place.Goals as goal
use Rattle.tr_seats.specs.Slots.{SlotState}

pub returns-then-number-i : goal.returns-then-number-i
returns-then-number-i g c = (
  (λ f. absurd (true≢false (sym f))),
  (λ all. absurd (c.if-number-i.true
      (c.number.ensures.number ∙ ap (λ (s : SlotState). s.number) c.index-slots-i.is
      ∙ all c.loop-i.i c.index-slots-i.result c.loop-i-test.true))),
)

pub loop-i-preserved : goal.loop-i-preserved
loop-i-preserved g c = λ k d.
    below_more (λ k. (get_or c.args.slots.now k d).number ≡ k) c.loop-i.i (λ k lt. c.loop-i.invariant k d lt)
    (ap (λ (s : SlotState). s.number)
    (get_or_default c.args.slots.now c.loop-i.i d c.index-slots-i.result c.loop-i-test.true ∙ sym c.index-slots-i.is)
    ∙ sym c.number.ensures.number ∙ c.if-number-i.false) k

pub returns : goal.returns
returns g c = ((λ t k d lt. c.loop-i.invariant k d (omega (arith, lt, c.loop-i-test.false))), (λ all. refl))
