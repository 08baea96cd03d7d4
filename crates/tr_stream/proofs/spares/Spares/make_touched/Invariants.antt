use Rattle.std.proofs.Common.{◌≡◌}
use Rattle.tr_stream.proofs.spares.Spares.make_touched.Given as goal

-- the size stays
abbrev pub invariant-loop : goal.invariant-loop
invariant-loop g l = l.self.size ≡ l.fn.self.size
