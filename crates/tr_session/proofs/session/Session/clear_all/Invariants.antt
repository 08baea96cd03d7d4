use Rattle.tr_session.proofs.ClearLemmas.{ClearsSo}
use Rattle.tr_session.proofs.session.Session.clear_all.Given as goal

-- the streams before this one are cleared
abbrev pub invariant-streams : goal.invariant-streams
invariant-streams g l = ClearsSo l.i l.initial.self l.self l.records
