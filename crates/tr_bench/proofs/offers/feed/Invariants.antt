use Rattle.std.proofs.Common.{◌≤◌}
use Rattle.tr_bench.specs.declared.offers.TheConstants.{OFFERS}
use Rattle.tr_bench.proofs.offers.feed.Given as goal

abbrev pub invariant-loop-k : goal.invariant-loop-k
invariant-loop-k l = (goal.iterator-loop-k).can_next l.k-iterator × (goal.iterator-loop-k).is_finite l.k-iterator
    × (l.k-iterator.end ≤ OFFERS)
