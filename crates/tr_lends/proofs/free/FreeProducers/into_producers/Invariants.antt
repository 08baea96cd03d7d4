use Rattle.std.proofs.Common.{◌≡◌, ◌++◌, length}
use Rattle.std.specs.Prelude.{vec_capacity}
use Rattle.tr_lends.proofs.free.FreeProducers.into_producers.Given as goal

abbrev pub invariant-loop-producer : goal.invariant-loop-producer
invariant-loop-producer g l = (l.room.items ++ l.free.items ≡ l.initial.free.items)
    × (vec_capacity l.room ≡ vec_capacity l.initial.room)

abbrev pub decreases-loop-producer : goal.decreases-loop-producer
decreases-loop-producer g l = length l.free.items
