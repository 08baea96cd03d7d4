use Rattle.std.proofs.Common.{◌≡◌, ◌≢◌, ◌∙◌, ◌+◌, ◌<◌, ◌^◌, List, ap, arith, below_more, eqb, get_or, length, subst, sym, true≢false}
use Rattle.std.specs.Prelude.{IsTrue, ◌↔◌}
use Rattle.tr_journal.specs.Journals.{JournalState}
use Rattle.tr_operations.specs.declared.step.DeskStep.{DeskStep}
use Rattle.tr_seats.proofs.AllOperators.{AreInOrder, did-all, each-place, many-are, order-kept, order-lost}
use Rattle.tr_seats.proofs.Joins.{put-back, read-same}
use Rattle.tr_seats.proofs.operator.audit_operators.Goals as goal
use Rattle.tr_seats.proofs.operator.audit_operators.Goals.{else-number-k, then-number-k}
use Rattle.tr_seats.specs.Operators.{AreAllOperators, HasItsOwn, IsNumber, OperatorState, operators_of}

pub loop-k-preserved : goal.loop-k-preserved
loop-k-preserved g c =
    let v = c.loop-k.invariant in
    let k = c.loop-k.k in
    let operators = c.args.operators.now in
    let journal = c.args.journal.now in
    let there : k < length operators = c.loop-k-test.true in
    let few : k + 2 < 2 ^ 128 = omega (arith, there) in
    let audited = c.audit_operator-number.ensures in
    let counted = c.audit_operator-number.result in
    let read = λ (d : OperatorState). read-same c.loop-k.operators operators k c.index-operators-k.result d v.operators_same there in
    let number : (d : OperatorState) → IsNumber counted (get_or operators k d).number =
    λ d. subst (λ (o : OperatorState). IsNumber counted o.number) (read d) audited.number in
    record {
      journal_same = audited.same.0 ∙ v.journal_same;
      operators_same = put-back c.loop-k.operators k c.audit_operator-number.new.operator c.index-operators-k.result audited.same.1
          ∙ v.operators_same;
      own = λ m d.
          below_more (λ m. HasItsOwn journal.lines (get_or operators m d)) k (λ m lt. v.own m d lt)
          (subst (λ (x : JournalState DeskStep × OperatorState). HasItsOwn x.0.lines x.1) (λ j. (v.journal_same j, read d j)) audited.own) m;
      order = elim c.if-number-k.branch [
        | then-number-k w ↦
            let other : counted ≢ k + 1 = λ same. w.if-number-k.true same in
            subst (λ b. IsTrue b ↔ AreInOrder (k + 1) operators) (sym w.in_order-is) (order-lost operators k counted few number other)
        | else-number-k w ↦
            let same : counted ≡ k + 1 = omega (arith, w.if-number-k.false) in
            subst (λ b. IsTrue b ↔ AreInOrder (k + 1) operators) (sym w.in_order-is)
            (order-kept operators k counted c.loop-k.in_order few number same v.order)
      ];
    }

pub returns-then-in_order-clause-own : goal.returns-then-in_order-clause-own
returns-then-in_order-clause-own g c =
    each-place (HasItsOwn c.args.journal.now.lines) c.args.operators.now
    (λ m d lt. c.loop-k.invariant.own m d (omega (arith, lt, c.loop-k-test.false)))

pub returns-else-in_order-clause-own : goal.returns-else-in_order-clause-own
returns-else-in_order-clause-own g c =
    each-place (HasItsOwn c.args.journal.now.lines) c.args.operators.now
    (λ m d lt. c.loop-k.invariant.own m d (omega (arith, lt, c.loop-k-test.false)))

pub returns-then-in_order-clause-lent : goal.returns-then-in_order-clause-lent
returns-then-in_order-clause-lent g c =
    let v = c.loop-k.invariant in
    let operators = c.args.operators.now in
    let made = operators_of c.args.journal.now.made in
    let few : length operators + 1 < 2 ^ 128 = omega (arith, ap length v.operators_same) in
    let in_order : AreInOrder (length operators) operators =
    λ m d lt. v.order.0 c.if-in_order.true m d (omega (arith, lt, c.loop-k-test.false)) in
    subst (λ (l : List OperatorState). IsTrue (eqb (length l) c.args.made) ↔ AreAllOperators made operators) (sym v.operators_same)
    (many-are operators c.args.made made few c.requires.made in_order)

pub returns-else-in_order-clause-lent : goal.returns-else-in_order-clause-lent
returns-else-in_order-clause-lent g c =
    let v = c.loop-k.invariant in (
      λ yes. absurd (true≢false (sym yes ∙ c.if-in_order.false)),
      λ all. v.order.1 (λ m d lt. all.in_order m d (omega (arith, lt, c.loop-k.auto.k-end))),
    )

pub returns-then-in_order-clause-none_missing : goal.returns-then-in_order-clause-none_missing
returns-then-in_order-clause-none_missing g c = λ yes.
    let v = c.loop-k.invariant in
    let operators = c.args.operators.now in
    let journal = c.args.journal.now in
    let few : length operators + 1 < 2 ^ 128 = omega (arith, ap length v.operators_same) in
    let in_order : AreInOrder (length operators) operators =
    λ m d lt. v.order.0 c.if-in_order.true m d (omega (arith, lt, c.loop-k-test.false)) in
    let all = (many-are operators c.args.made (operators_of journal.made) few c.requires.made in_order).0
    (subst (λ (l : List OperatorState). IsTrue (eqb (length l) c.args.made)) v.operators_same yes) in
    did-all journal.made journal.lines operators c.requires.first c.requires.theirs all
    (each-place (HasItsOwn journal.lines) operators (λ m d lt. v.own m d (omega (arith, lt, c.loop-k-test.false))))
