use Rattle.std.proofs.Common.{◌≡◌, ◌≤◌, length, drop}
use Rattle.tr_seats.proofs.planned.Plan.build_watched.Given as goal
use Rattle.tr_seats.specs.Plans.{AreTellersFrom, books_in, streams_in, tellers_in}

-- those that are left are those of the plan that have no name yet
abbrev pub invariant-loop-planned : goal.invariant-loop-planned
invariant-loop-planned g l =
    (goal.iterator-loop-planned g).can_next l.planned-iterator × (goal.iterator-loop-planned g).is_finite l.planned-iterator
    × (drop l.named g.N.Names.plan.books ≡ books_in l.planned-iterator.rest.items)
    × (drop l.named g.N.Names.plan.session.streams ≡ streams_in l.planned-iterator.rest.items)
    × (l.named ≤ length g.N.Names.plan.books)
    × AreTellersFrom l.named g.N.Names.plan.tally.table (tellers_in l.planned-iterator.rest.items)
