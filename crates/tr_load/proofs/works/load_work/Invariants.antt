use Rattle.std.proofs.Common.{◌≡◌, ◌≤◌, map, vec_len}
use Rattle.std.specs.Prelude.{vec_capacity}
use Rattle.std.specs.List.{range_with_len}
use Rattle.tr_load.specs.Works.{item_of}
use Rattle.tr_load.proofs.works.load_work.Given as goal

-- the first items, and room for the others
abbrev pub invariant-records : goal.invariant-records
invariant-records l =
    (l.items.items ≡ map (item_of l.t) (range_with_len 0 l.k))
    × (vec_len l.items ≡ l.k)
    × (l.records ≤ vec_capacity l.items)
