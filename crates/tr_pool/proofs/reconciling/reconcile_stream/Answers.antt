use Rattle.std.proofs.Common.{rules, ◌≡◌, length, Some, None, ap, sym, ◌∙◌, refl, subst}
use Rattle.tr_pool.specs.Logs.{IsLeastWrong, held_records, log_of}
use Rattle.tr_pool.proofs.reconciling.reconcile_stream.Goals as goal

pub returns-in_default-clause-wrong : goal.returns-in_default-clause-wrong
returns-in_default-clause-wrong c =
    let none : log_of c.args.logs.now c.args.i ≡ None = search rules in
    (refl, λ x. let some : log_of c.args.logs.now c.args.i ≡ Some x.0 = x.1.0 in cc)

pub returns-then-items-counts-clause-wrong : goal.returns-then-items-counts-clause-wrong
returns-then-items-counts-clause-wrong c =
    let found : log_of c.args.logs.now c.args.i ≡ Some c.in-Some.log.now = search rules in
    let items : c.as_slice-items.result.now ≡ c.in-Some.log.now.items = c.as_slice-items.ensures in
    let offered : c.counts.result.offered ≡ c.args.stream.now.counters.offered = search rules in (
      refl,
      λ x.
          let both : Some c.in-Some.log.now ≡ Some x.0 = sym found ∙ x.1.0 in
          let same : c.in-Some.log.now ≡ x.0 = cc in
          let len : length c.as_slice-items.result.now ≡ c.counts.result.offered = ap length items ∙ ap (λ l. length l.items) same ∙ x.1.1 ∙ sym offered in
          search rules,
    )

pub returns-in-None-clause-ok : goal.returns-in-None-clause-ok
returns-in-None-clause-ok c =
    let found : log_of c.args.logs.now c.args.i ≡ Some c.in-Some.log.now = search rules in
    let items : c.as_slice-items.result.now ≡ c.in-Some.log.now.items = c.as_slice-items.ensures in
    let offered : c.counts.result.offered ≡ c.args.stream.now.counters.offered = search rules in
    let len : length c.as_slice-items.result.now ≡ c.counts.result.offered = search rules in
    let judged : IsLeastWrong c.as_slice-items.result.now (held_records c.args.stream.now) c.least_wrong.result = c.least_wrong.ensures in (
      c.in-Some.log.now,
      (found, ap length (sym items) ∙ len ∙ offered),
      subst (λ xs. IsLeastWrong xs (held_records c.args.stream.now) None) items
          (subst (λ o. IsLeastWrong c.as_slice-items.result.now (held_records c.args.stream.now) o) c.in-None.is judged),
    )

pub returns-in-Some-least_wrong-clause-wrong : goal.returns-in-Some-least_wrong-clause-wrong
returns-in-Some-least_wrong-clause-wrong c =
    let found : log_of c.args.logs.now c.args.i ≡ Some c.in-Some.log.now = search rules in
    let items : c.as_slice-items.result.now ≡ c.in-Some.log.now.items = c.as_slice-items.ensures in
    let offered : c.counts.result.offered ≡ c.args.stream.now.counters.offered = search rules in
    let len : length c.as_slice-items.result.now ≡ c.counts.result.offered = search rules in
    let judged : IsLeastWrong c.as_slice-items.result.now (held_records c.args.stream.now) c.least_wrong.result = c.least_wrong.ensures in (
      refl,
      (
        c.in-Some.log.now,
        (found, ap length (sym items) ∙ len ∙ offered),
        subst (λ xs. IsLeastWrong xs (held_records c.args.stream.now) (Some c.in-Some-least_wrong.serial)) items
            (subst (λ o. IsLeastWrong c.as_slice-items.result.now (held_records c.args.stream.now) o) c.in-Some-least_wrong.is judged),
      ),
    )
