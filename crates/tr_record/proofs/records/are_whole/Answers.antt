use Rattle.std.proofs.Common.{◌≡◌, List, ℕ, length, drop, eqb, refl, ap, sym, subst, ◌∙◌}
use Rattle.std.proofs.lemmas.Bool.{false≢true, eqb-true}
use Rattle.std.proofs.lemmas.List.{nil_from_length}
use Rattle.tr_record.specs.Whole.{AreWhole}
use Rattle.tr_record.proofs.WholeLemmas.{whole_none, whole_first, whole_nothing, whole_behind}
use Rattle.tr_record.proofs.records.are_whole.Goals as goal

pub returns-in_default : goal.returns-in_default
returns-in_default c = (
  λ never. absurd (false≢true never),
  λ whole.
      let none = whole_nothing c.loop-rest.rest.now (c.loop-rest.invariant.0 whole) c.in_default.ensures.only in
      sym c.loop-rest-test.true ∙ c.is_empty.ensures ∙ ap (λ (rest : List ℕ). eqb (length rest) 0) none,
)

pub loop-rest-preserved : goal.loop-rest-preserved
loop-rest-preserved c =
    let rest = c.loop-rest.rest.now in
    let after = c.split_at.result.1.now in
    let back : after ≡ drop c.in-Some.size rest = c.split_at.ensures.back in (
      λ whole. (whole_first rest after c.in-Some.field-0-0 c.in-Some.size (c.loop-rest.invariant.0 whole) c.in-Some.ensures.found back).0,
      λ whole. c.loop-rest.invariant.1 (whole_behind rest c.in-Some.field-0-0 c.in-Some.size c.in-Some.ensures.found (subst AreWhole back whole)),
    )

pub returns : goal.returns
returns c =
    let none = nil_from_length c.loop-rest.rest.now (eqb-true (length c.loop-rest.rest.now) 0 (sym c.is_empty.ensures ∙ c.loop-rest-test.false)) in
    (λ holds. c.loop-rest.invariant.1 (subst AreWhole (sym none) whole_none.0), λ whole. refl)
