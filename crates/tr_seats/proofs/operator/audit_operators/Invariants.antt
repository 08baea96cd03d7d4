use Rattle.std.proofs.Common.{◌≡◌, ℕ, ◌+◌, ◌<◌, get_or}
use Rattle.std.specs.Prelude.{IsTrue, ◌↔◌}
use Rattle.tr_seats.proofs.operator.audit_operators.Given as goal
use Rattle.tr_seats.specs.Operators.{HasItsOwn, OperatorState}

abbrev pub invariant-loop-k : goal.invariant-loop-k
invariant-loop-k g l = record {
  journal_same : l.journal ≡ l.initial.journal;
  operators_same : l.operators ≡ l.initial.operators;
  own : (m : ℕ) (d : OperatorState) → m < l.k → HasItsOwn l.initial.journal.lines (get_or l.initial.operators m d);
  order : IsTrue l.in_order
      ↔ ((m : ℕ) (d : OperatorState) → m < l.k → (get_or l.initial.operators m d).number ≡ m + 1);
}
