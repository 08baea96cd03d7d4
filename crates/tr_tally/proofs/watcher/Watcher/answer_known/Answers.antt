use Rattle.std.proofs.Common.{ap, ◌∙◌, sym}
use Rattle.tr_tally.specs.Tallies.{TallyState}
use Rattle.tr_tally.proofs.Steps.{parts-as}
use Rattle.tr_tally.proofs.WordLemmas.{has-word}
use Rattle.tr_tally.proofs.watcher.Watcher.answer_known.Goals as goal

pub split_seat-requires : goal.split_seat-requires
split_seat-requires g c =
    let i = c.self.invariant in
    let tally = c.words.view_is ∙ c.deref-words.ensures in (
      i.3 ∙ sym (ap (λ (t : TallyState). t.table) tally),
      has-word c.words.inside.asked _ c.words.invariant.1,
      (λ s h at. parts-as _ s.words s.views h _ _ at _ _ (ap (λ m. m.0) i.0)),
    )
