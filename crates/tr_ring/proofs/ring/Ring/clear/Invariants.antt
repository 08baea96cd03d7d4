use Rattle.std.proofs.Common.{◌≡◌, drop}
use Rattle.tr_ring.proofs.ring.Ring.clear.Given as goal

-- as many sub-buffers are removed as were counted, the oldest first
abbrev pub invariant-loop : goal.invariant-loop
invariant-loop g l = l.self ≡ record l.fn.self { waiting = drop l.counter l.fn.self.waiting }
