use Rattle.std.proofs.Common.{◌≡◌}
use Rattle.tr_shared_tests.proofs.tallies.watch.Given as goal

abbrev pub invariant-tries : goal.invariant-tries
invariant-tries g l = l.watcher.table ≡ l.initial.watcher.table

abbrev pub invariant-streams : goal.invariant-streams
invariant-streams g l = l.watcher.table ≡ l.initial.watcher.table
