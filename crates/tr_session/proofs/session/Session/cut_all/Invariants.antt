use Rattle.std.proofs.Common.{◌≡◌}
use Rattle.tr_session.proofs.session.Session.cut_all.Given as goal
use Rattle.tr_session.specs.Steps.{cut_first}
use Rattle.tr_stream.specs.Rules.{by_state}

-- the streams before this one are cut
abbrev pub invariant-cuts : goal.invariant-cuts
invariant-cuts g l = l.self ≡ cut_first by_state l.i l.initial.self
