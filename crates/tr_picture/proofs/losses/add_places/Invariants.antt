use Rattle.std.proofs.Common.{◌≡◌}
use Rattle.tr_picture.specs.Losses.{with_places}
use Rattle.tr_picture.proofs.losses.add_places.Given as goal

-- with the records that are left, the lane is that of all
abbrev pub invariant-loop-event : goal.invariant-loop-event
invariant-loop-event l =
    with_places l.frame l.archive l.begin l.lane l.taken l.event-iterator
    ≡ with_places l.frame l.archive l.begin l.fn.lane l.fn.before l.fn.packet.records
