use Rattle.std.proofs.Common.{◌≡◌, ◌++◌, ◌≤◌, length, reverse, vec_len}
use Rattle.std.specs.Prelude.{flat_map, vec_capacity}
use Rattle.tr_threads.specs.Sides.{as_producer, as_drainer}
use Rattle.tr_threads.proofs.sides.told_apart.Given as goal

-- the seats that are left are the first ones; the others are with those of their side, the last first
abbrev pub invariant-seats : goal.invariant-seats
invariant-seats g l =
    (length (flat_map as_producer l.fn.seats.items) ≤ vec_capacity l.producers)
    × (length (flat_map as_drainer l.fn.seats.items) ≤ vec_capacity l.drainers)
    × (flat_map as_producer l.fn.seats.items ≡ flat_map as_producer l.seats.items ++ reverse l.producers.items)
    × (flat_map as_drainer l.fn.seats.items ≡ flat_map as_drainer l.seats.items ++ reverse l.drainers.items)

abbrev pub decreases-seats : goal.decreases-seats
decreases-seats g l = vec_len l.seats
