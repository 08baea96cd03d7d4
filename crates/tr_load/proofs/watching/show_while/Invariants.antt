use Rattle.std.proofs.Common.{◌≡◌}
use Rattle.tr_load.proofs.watching.show_while.Given as goal

abbrev pub invariant-looks : goal.invariant-looks
invariant-looks g l = l.watcher.table ≡ l.fn.watcher.table
