use Rattle.std.proofs.Common.{◌≡◌, ◌≤◌, true}
use Rattle.tr_stream.specs.StateSteps.{are_parts_released}
use Rattle.tr_stream.proofs.stream.Stream.forget_refusal.Given as goal

abbrev pub invariant-loop-at : goal.invariant-loop-at
invariant-loop-at g l = (are_parts_released l.at l.self ≡ true) × (l.self.parts.forgotten ≤ l.at)
