use Rattle.std.proofs.Common.{◌≡◌, ◌+◌, ◌≤◌, length, vec_len}
use Rattle.std.specs.Prelude.{vec_capacity}
use Rattle.tr_shared.proofs.shared.Shared.open.Given as goal

-- each stream is under its lock or in its slot, and both lists keep their room
abbrev pub invariant-loop-lock : goal.invariant-loop-lock
invariant-loop-lock g l = record {
  all : vec_len l.slots + vec_len l.locks ≡ length g.N.Names.plan.books;
  slots : length g.N.Names.plan.books ≤ vec_capacity l.slots;
  locks : length g.N.Names.plan.books ≤ vec_capacity l.locks;
}

abbrev pub decreases-loop-lock : goal.decreases-loop-lock
decreases-loop-lock g l = vec_len l.locks
