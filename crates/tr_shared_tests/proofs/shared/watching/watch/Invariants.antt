use Rattle.std.proofs.Common.{◌≡◌}
use Rattle.tr_shared_tests.proofs.shared.watching.watch.Given as goal

-- what is read leaves the watcher its table
abbrev pub invariant-tries : goal.invariant-tries
invariant-tries g l = l.watcher.table ≡ l.initial.watcher.table
