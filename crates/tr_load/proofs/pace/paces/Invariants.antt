use Rattle.std.proofs.Common.{◌≡◌, ◌≤◌, vec_len}
use Rattle.std.specs.Prelude.{vec_capacity}
use Rattle.tr_load.proofs.pace.paces.Given as goal

-- a pace for each worker so far, and room for the others
abbrev pub invariant-workers : goal.invariant-workers
invariant-workers l = (vec_len l.paces ≡ l.counter) × (l.workers ≤ vec_capacity l.paces)
