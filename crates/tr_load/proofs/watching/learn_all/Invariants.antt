use Rattle.std.proofs.Common.{◌≡◌, ◌≤◌, ◌*◌, length, take}
use Rattle.std.specs.List.{sum_by}
use Rattle.tr_seats.specs.Slots.{ProducerState}
use Rattle.tr_load.proofs.watching.learn_all.Given as goal

-- what was learned of the first producers is no less than what they have published, and no more than they offered
abbrev pub invariant-producers : goal.invariant-producers
invariant-producers g l =
    (l.watcher.table ≡ l.fn.watcher.table) × (l.producers ≡ l.fn.producers) × (l.k-end ≡ length l.fn.producers)
    × (sum_by (λ (p : ProducerState). p.published) (take l.k l.fn.producers) ≤ l.offered)
    × (l.offered ≤ sum_by (λ (p : ProducerState). p.offered) (take l.k l.fn.producers))
    × (l.offered ≤ l.k * 18446744073709551615)
