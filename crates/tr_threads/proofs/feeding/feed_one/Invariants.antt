use Rattle.std.proofs.Common.{◌≡◌, ◌+◌, ◌≤◌, ◌++◌, vec_len, length}
use Rattle.std.specs.Prelude.{vec_capacity}
use Rattle.std.specs.List.{FoldsTo}
use Rattle.tr_threads.specs.Feeding.{OffersOne}
use Rattle.tr_threads.proofs.feeding.feed_one.Given as goal

-- what was offered so far, and the room for the rest
abbrev pub invariant-offering : goal.invariant-offering
invariant-offering g l =
    FoldsTo (OffersOne (g.T.Intake.offers l.intake)) (l.fn.producer, l.fn.log.items) l.yielded (l.producer, l.log.items)
    × (vec_len l.log + length l.item-iterator.rest.items ≤ vec_capacity l.log)
    × (l.yielded ++ l.item-iterator.rest.items ≡ l.fn.work.items)
