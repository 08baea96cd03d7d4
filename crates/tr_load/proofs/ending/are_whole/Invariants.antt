use Rattle.std.proofs.Common.{◌≡◌, ℕ, ◌<◌, get_or, length}
use Rattle.tr_load.proofs.ending.are_whole.Given as goal
use Rattle.tr_pool.specs.declared.log.Log.{Log}

-- each log before this one has as many items
abbrev pub invariant-loop-i : goal.invariant-loop-i
invariant-loop-i l = (k : ℕ) (d : Log) → k < l.i → length (get_or l.logs k d).items ≡ l.fn.records
