use Rattle.std.proofs.Common.{◌≡◌, ◌≤◌}
use Rattle.tr_stream.proofs.spares.Spares.make.Given as goal

-- as many pages as were counted, of the size
abbrev pub invariant-loop : goal.invariant-loop
invariant-loop g l = record { size : l.self.size ≡ l.size; count : l.counter ≤ l.self.count }
