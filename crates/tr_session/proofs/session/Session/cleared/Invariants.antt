use Rattle.tr_session.proofs.ClearLemmas.{CountsSo}
use Rattle.tr_session.proofs.session.Session.cleared.Given as goal

-- the streams so far
abbrev pub invariant-streams : goal.invariant-streams
invariant-streams g l = CountsSo l.i l.self l.records
