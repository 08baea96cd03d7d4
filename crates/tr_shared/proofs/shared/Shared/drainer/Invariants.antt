use Rattle.std.proofs.Common.{◌≡◌}
use Rattle.tr_shared.proofs.shared.Shared.drainer.Given as goal

-- the drainer has the seats of the first streams
abbrev pub invariant-loop-i : goal.invariant-loop-i
invariant-loop-i g l = l.begun ≡ l.i
