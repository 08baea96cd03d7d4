use Rattle.std.proofs.Common.{◌≡◌, true≢false, refl, sym, ◌∙◌, below_more, arith}
use Rattle.std.specs.Prelude.{count_by, ◌==◌}
use Rattle.tr_seats.specs.Slots.{ProducerState}
use Rattle.tr_seats.proofs.settling.has_one_each.Goals as goal

pub returns-then-count_of-ne1 : goal.returns-then-count_of-ne1
returns-then-count_of-ne1 g c = (
  (λ f. absurd (true≢false (sym f))),
  (λ all. absurd (c.if-count_of-ne1.true (c.count_of.ensures ∙ all c.loop-i.i c.loop-i-test.true))),
)

pub loop-i-preserved : goal.loop-i-preserved
loop-i-preserved g c =
    below_more (λ k. count_by (λ (p : ProducerState). p.number == k) c.args.producers.now ≡ 1) c.loop-i.i c.loop-i.invariant
    (sym c.count_of.ensures ∙ c.if-count_of-ne1.false)

pub returns : goal.returns
returns g c = ((λ t k lt. c.loop-i.invariant k (omega arith)), (λ _. refl))
