use Rattle.std.proofs.Common.{◌≡◌, length}
use Rattle.tr_shared_tests.proofs.seats.drainer_of.Given as goal

-- the drainer has the seats of the first streams
abbrev pub invariant-loop-i : goal.invariant-loop-i
invariant-loop-i g l = (l.begun ≡ l.i) × (length l.slots.items ≡ length l.initial.slots.items)
