use Rattle.std.proofs.Common.{◌<◌, ap, ◌∙◌, sym, arith}
use Rattle.std.specs.Arc.{arc_value}
use Rattle.tr_tally.specs.Views.{made_in}
use Rattle.tr_tally.specs.Tallies.{OpenerState, TallyState}
use Rattle.tr_tally.proofs.Steps.{makes-as}
use Rattle.tr_tally.proofs.WordLemmas.{has-word}
use Rattle.tr_tally.proofs.opener.Opener.teller.Goals as goal

pub split_seat-token-requires : goal.split_seat-token-requires
split_seat-token-requires g c =
    let i = c.self.invariant in
    let tally = c.words.view_is ∙ c.deref-words.ensures ∙ c.in_ok-shared.ensures in
    let streams = ap (λ (o : OpenerState). o.tally.streams) c.self.view_is in
    let made = ap (λ (o : OpenerState). o.made) c.self.view_is in
    let lt : made_in c.self.inside.token.me.0 < (arc_value c.self.inside.words).streams = omega (arith, c.requires.next, c.requires.within, streams, made) in (
      i.1 ∙ sym (ap (λ (t : TallyState). t.table) tally),
      has-word c.words.inside.asked _ c.words.invariant.1,
      (λ s h at. makes-as _ s.words s.views h _ _ at _ _ (ap (λ m. m.0) i.0) lt),
    )
