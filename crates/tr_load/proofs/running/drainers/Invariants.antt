use Rattle.std.proofs.Common.{◌≡◌, ◌≤◌, vec_len}
use Rattle.std.specs.Prelude.{vec_capacity}
use Rattle.tr_load.proofs.running.drainers.Given as goal

-- a drainer for each worker so far, and room for the others
abbrev pub invariant-workers : goal.invariant-workers
invariant-workers g l = (vec_len l.drainers ≡ l.counter) × (l.workers ≤ vec_capacity l.drainers)
