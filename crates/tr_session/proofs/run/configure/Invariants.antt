use Rattle.std.proofs.Common.{◌≡◌, drop}
use Rattle.tr_session.proofs.run.configure.Given as goal
use Rattle.tr_session.specs.Runs.{configure_channels}
use Rattle.tr_stream.specs.Rules.{by_state}

-- the channels that are left lead to the same
abbrev pub invariant-channels : goal.invariant-channels
invariant-channels g l = configure_channels by_state (drop l.channel-index l.channel-items) l.session
    ≡ configure_channels by_state l.channel-items l.initial.session
