use Rattle.std.proofs.Common.{◌≡◌, ◌≤◌, map, vec_len}
use Rattle.std.specs.Prelude.{vec_capacity}
use Rattle.std.specs.List.{range_with_len}
use Rattle.tr_load.specs.Works.{work_of}
use Rattle.tr_load.proofs.works.load_works.Given as goal

-- the work of the first feeders, and room for that of the others
abbrev pub invariant-threads : goal.invariant-threads
invariant-threads l =
    (map (λ w. w.items) l.works.items ≡ map (work_of l.records) (range_with_len 0 l.t))
    × (vec_len l.works ≡ l.t)
    × (l.threads ≤ vec_capacity l.works)
