use Rattle.std.proofs.Common.{◌≡◌, ◌≤◌, vec_len}
use Rattle.std.specs.Prelude.{vec_capacity}
use Rattle.tr_shared.proofs.shared.Shared.current_sizes.Given as goal

-- the sizes of the first streams, with room for all
abbrev pub invariant-loop-i : goal.invariant-loop-i
invariant-loop-i g l = (vec_len l.sizes ≡ l.i) × (l.i-end ≤ vec_capacity l.sizes)
