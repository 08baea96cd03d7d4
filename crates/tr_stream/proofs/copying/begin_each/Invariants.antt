use Rattle.std.proofs.Common.{◌≡◌}
use Rattle.tr_stream.proofs.copying.begin_each.Given as goal

abbrev pub invariant-loop-i : goal.invariant-loop-i
invariant-loop-i g l = l.ring ≡ l.initial.ring
