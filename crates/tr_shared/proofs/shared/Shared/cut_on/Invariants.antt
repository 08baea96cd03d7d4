use Rattle.std.proofs.Common.{◌≡◌, List}
use Rattle.std.specs.List.{AllByRecursion}
use Rattle.tr_operations.specs.declared.step.DeskStep.{DeskStep}
use Rattle.tr_seats.specs.Operators.{with_steps}
use Rattle.tr_shared.proofs.shared.Shared.cut_on.Given as goal
use Rattle.tr_shared.specs.Operators.{IsCut}

-- streams were cut, and nothing else was done
abbrev pub invariant-loop : goal.invariant-loop
invariant-loop g l = (cuts : List DeskStep) × AllByRecursion IsCut cuts × (l.operator ≡ with_steps cuts l.initial.operator)
