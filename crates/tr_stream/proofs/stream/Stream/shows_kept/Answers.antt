use Rattle.tr_stream.proofs.Consistency.{consistent-of}
use Rattle.tr_stream.proofs.stream.Stream.shows_kept.Goals as goal

pub returns-clause-consistent : goal.returns-clause-consistent
returns-clause-consistent g c = consistent-of _ _ c.self.view_is c.self.invariant
