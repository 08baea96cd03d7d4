use Rattle.std.proofs.Common.{◌∙◌, ap, subst, sym}
use Rattle.std.specs.List.{AllByRecursion}
use Rattle.tr_record.proofs.RecordLemmas.{all_push}
use Rattle.tr_ring.specs.Pages.{IsFree}
use Rattle.tr_stream.specs.Spares.{SparesState}
use Rattle.tr_subbuf.specs.SubBuffer.{empty_buffer}
use Rattle.tr_stream.proofs.spares.Spares.add.Goals as goal

pub invariant_of-self-2 : goal.invariant_of-self-2
invariant_of-self-2 g c =
    let own = c.self.inside in
    let empty : IsFree own.size c.args.page = c.requires ∙ ap (λ (s : SparesState). empty_buffer s.size) (sym c.self.view_is) in
    subst (AllByRecursion (IsFree own.size)) (sym c.in_ok-push.ensures.items)
    (all_push (IsFree own.size) own.pages.items c.args.page c.self.invariant empty)
