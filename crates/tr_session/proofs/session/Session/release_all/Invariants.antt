use Rattle.tr_session.proofs.ReleaseLemmas.{ReleasesSo}
use Rattle.tr_session.proofs.session.Session.release_all.Given as goal

-- the streams before this one have released their parts
abbrev pub invariant-streams : goal.invariant-streams
invariant-streams g l = ReleasesSo l.k l.i l.initial.self l.self l.left
