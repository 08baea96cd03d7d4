use Rattle.std.proofs.Common.{◌≡◌, ◌+◌, ◌≤◌, ◌++◌, map, reverse, vec_len}
use Rattle.std.specs.Prelude.{vec_capacity}
use Rattle.tr_threads.proofs.feeding.unpair.Given as goal

-- the seats that are left are the first ones; the producers of the others have come
abbrev pub invariant-seats : goal.invariant-seats
invariant-seats g l =
    (vec_len l.producers + vec_len l.seats ≡ vec_len l.fn.producers + vec_len l.fn.seats)
    × (vec_len l.producers + vec_len l.seats ≤ vec_capacity l.producers)
    × (l.fn.producers.items ++ reverse (map (λ s. s.producer) l.fn.seats.items)
    ≡ l.producers.items ++ reverse (map (λ s. s.producer) l.seats.items))

abbrev pub decreases-seats : goal.decreases-seats
decreases-seats g l = vec_len l.seats
