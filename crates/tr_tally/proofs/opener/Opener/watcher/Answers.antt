use Rattle.std.proofs.Common.{ap, ◌∙◌, sym}
use Rattle.tr_tally.specs.Tallies.{TallyState}
use Rattle.tr_tally.proofs.Steps.{watches-as}
use Rattle.tr_tally.proofs.WordLemmas.{has-word}
use Rattle.tr_tally.proofs.opener.Opener.watcher.Goals as goal

pub split_seat-token-requires : goal.split_seat-token-requires
split_seat-token-requires g c =
    let i = c.self.invariant in
    let tally = c.words.view_is ∙ c.deref-words.ensures ∙ c.in_ok-shared.ensures in (
      i.1 ∙ sym (ap (λ (t : TallyState). t.table) tally),
      has-word c.words.inside.asked _ c.words.invariant.1,
      (λ s h at. watches-as _ s.words s.views h _ _ at _ _ (ap (λ m. m.0) i.0)),
    )
