use Rattle.std.proofs.Common.{◌≡◌, map, take}
use Rattle.tr_session.proofs.streams.sizes_of.Given as goal
use Rattle.tr_stream.specs.State.{StreamState}
use Rattle.tr_stream.specs.StateSteps.{state_counts}

-- the sizes of the first streams
abbrev pub invariant-streams : goal.invariant-streams
invariant-streams g l = l.sizes.items ≡ map (λ (s : StreamState). (state_counts s).current_bytes) (take l.stream-index l.streams)
