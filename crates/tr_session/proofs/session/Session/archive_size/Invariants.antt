use Rattle.tr_session.proofs.SizeLemmas.{TalliesSo}
use Rattle.tr_session.proofs.session.Session.archive_size.Given as goal

-- the streams so far
abbrev pub invariant-streams : goal.invariant-streams
invariant-streams g l = TalliesSo l.i l.id l.self l.size
