use Rattle.std.proofs.Common.{◌≡◌, ◌≤◌}
use Rattle.tr_stream.proofs.copying.copy_next.Given as goal

-- no more than so many were copied, and the ring is as it was
abbrev pub invariant-loop-i : goal.invariant-loop-i
invariant-loop-i g l = (l.left ≤ l.most) × (l.ring ≡ l.initial.ring)
