use Rattle.std.proofs.Common.{◌≡◌, ◌+◌, ◌++◌, ◌≤◌, map, reverse, vec_len}
use Rattle.std.specs.Prelude.{vec_capacity}
use Rattle.tr_threads.specs.declared.sides.Side.TheVariants.{Producer, Drainer}
use Rattle.tr_threads.proofs.sides.lined_up.Given as goal

-- the seats that are left are the first ones; the line has the others, the last first
abbrev pub invariant-drainers : goal.invariant-drainers
invariant-drainers g l =
    (vec_len l.seats + vec_len l.drainers ≡ vec_len l.fn.drainers)
    × (vec_len l.fn.producers + vec_len l.fn.drainers ≤ vec_capacity l.seats)
    × (vec_len l.fn.drainers ≤ vec_capacity l.drainers)
    × (map Drainer l.fn.drainers.items ≡ map Drainer l.drainers.items ++ reverse l.seats.items)

abbrev pub decreases-drainers : goal.decreases-drainers
decreases-drainers g l = vec_len l.drainers

abbrev pub invariant-producers : goal.invariant-producers
invariant-producers g l =
    (vec_len l.seats + vec_len l.producers ≡ vec_len l.fn.producers + vec_len l.fn.drainers)
    × (vec_len l.fn.producers + vec_len l.fn.drainers ≤ vec_capacity l.seats)
    × (vec_len l.fn.producers ≤ vec_capacity l.producers)
    × (map Producer l.fn.producers.items ++ map Drainer l.fn.drainers.items ≡ map Producer l.producers.items ++ reverse l.seats.items)

abbrev pub decreases-producers : goal.decreases-producers
decreases-producers g l = vec_len l.producers
