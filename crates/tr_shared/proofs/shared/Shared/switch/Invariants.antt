use Rattle.std.proofs.Common.{◌≡◌}
use Rattle.tr_seats.specs.Operators.{with_steps}
use Rattle.tr_session_book.specs.BookSteps.{is_active}
use Rattle.tr_shared.proofs.shared.Shared.switch.Given as goal
use Rattle.tr_shared.specs.Operators.{switched}

-- the streams before this one are switched
abbrev pub invariant-loop-i : goal.invariant-loop-i
invariant-loop-i g l = record {
  same : l.desk ≡ l.initial.desk;
  steps : l.operator ≡ with_steps (switched (is_active l.initial.desk.book.state) l.i) l.initial.operator;
}
