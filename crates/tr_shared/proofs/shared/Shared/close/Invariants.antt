use Rattle.std.proofs.Common.{◌≡◌, ◌+◌, ◌≤◌, length, vec_len}
use Rattle.std.specs.Prelude.{vec_capacity}
use Rattle.tr_shared.proofs.shared.Shared.close.Given as goal

-- each stream is in its slot or under its lock, and both lists keep their room
abbrev pub invariant-loop-slot : goal.invariant-loop-slot
invariant-loop-slot g l = record {
  all : vec_len l.locks + vec_len l.slots ≡ length g.N.Names.plan.books;
  locks : length g.N.Names.plan.books ≤ vec_capacity l.locks;
  slots : length g.N.Names.plan.books ≤ vec_capacity l.slots;
}

abbrev pub decreases-loop-slot : goal.decreases-loop-slot
decreases-loop-slot g l = vec_len l.slots
