use Rattle.std.proofs.Common.{◌∙◌, ap, subst}
use Rattle.std.specs.List.{AllByRecursion}
use Rattle.tr_ring.specs.Pages.{IsFree}
use Rattle.tr_stream.proofs.PageLemmas.{all-but_last, last-of_all}
use Rattle.tr_stream.proofs.spares.Spares.pop.Goals as goal
use Rattle.tr_stream.specs.Spares.{SparesState}
use Rattle.tr_subbuf.specs.SubBuffer.{empty_buffer}

pub invariant_of-self : goal.invariant_of-self
invariant_of-self g c =
    all-but_last (IsFree c.self.inside.size) c.take_last.new.self.items c.take_last.result
    (subst (AllByRecursion (IsFree c.self.inside.size)) c.take_last.ensures.items c.self.invariant)

pub returns-clause-page : goal.returns-clause-page
returns-clause-page g c =
    last-of_all (IsFree c.self.inside.size) c.take_last.new.self.items c.take_last.result
    (subst (AllByRecursion (IsFree c.self.inside.size)) c.take_last.ensures.items c.self.invariant)
    ∙ ap (λ (s : SparesState). empty_buffer s.size) c.self.view_is
