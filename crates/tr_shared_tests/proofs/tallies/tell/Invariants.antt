use Rattle.std.proofs.Common.{◌≡◌}
use Rattle.tr_shared_tests.proofs.tallies.tell.Given as goal

abbrev pub invariant-counts : goal.invariant-counts
invariant-counts g l = l.teller.table ≡ l.initial.teller.table
