use Rattle.std.proofs.Common.{◌≡◌, map, take}
use Rattle.tr_session.proofs.streams.snap_all.Given as goal
use Rattle.tr_stream.specs.StateSteps.{state_snap}

-- the first streams were shown
abbrev pub invariant-streams : goal.invariant-streams
invariant-streams g l = l.snaps.items ≡ map (state_snap l.fn.moment) (take l.stream-index l.streams)
