use Rattle.std.proofs.Common.{◌≡◌, ◌+◌, ◌≤◌, ◌++◌, [], map, reverse, vec_len}
use Rattle.std.specs.Prelude.{vec_capacity}
use Rattle.std.specs.List.{AllByRecursion}
use Rattle.tr_threads.proofs.feeding.pair.Given as goal

-- the producers and the work that are left are the first ones; the seats have the others, the last first
abbrev pub invariant-pairs : goal.invariant-pairs
invariant-pairs g l =
    (vec_len l.works ≡ vec_len l.producers)
    × (vec_len l.producers + vec_len l.seats ≡ vec_len l.fn.producers)
    × (vec_len l.fn.producers ≤ vec_capacity l.producers)
    × (vec_len l.fn.producers ≤ vec_capacity l.seats)
    × (l.fn.producers.items ≡ l.producers.items ++ reverse (map (λ s. s.producer) l.seats.items))
    × (l.fn.works.items ≡ l.works.items ++ reverse (map (λ s. s.work) l.seats.items))
    × AllByRecursion (λ s. s.log.items ≡ []) l.seats.items

abbrev pub decreases-pairs : goal.decreases-pairs
decreases-pairs g l = vec_len l.producers
