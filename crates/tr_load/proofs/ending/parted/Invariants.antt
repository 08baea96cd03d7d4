use Rattle.std.proofs.Common.{◌≡◌, ◌+◌, ◌≤◌, ◌++◌, length, map, vec_len}
use Rattle.std.specs.Prelude.{vec_capacity}
use Rattle.tr_load.specs.Loads.{log_in}
use Rattle.tr_load.proofs.ending.parted.Given as goal

-- the first producers' logs, and room for the others
abbrev pub invariant-fed : goal.invariant-fed
invariant-fed g l =
    (l.logs.items ≡ map (λ b. log_in b.producer.number b.log.items) l.yielded)
    × (l.producers.items ≡ map (λ b. b.producer) l.yielded)
    × (l.yielded ++ l.logged-iterator.rest.items ≡ l.fn.fed.items)
    × (vec_len l.producers + length l.logged-iterator.rest.items ≤ vec_capacity l.producers)
    × (vec_len l.logs + length l.logged-iterator.rest.items ≤ vec_capacity l.logs)
