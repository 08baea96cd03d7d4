use Rattle.std.proofs.Common.{◌≡◌, ◌<◌, ◌≤◌, length, set, ap, ◌∙◌, sym, refl, arith, get_or-set_other, get_or-set_same}
use Rattle.std.proofs.lemmas.List.{length-set}
use Rattle.atomic_table.specs.Table.{keeps}
use Rattle.tr_tally.specs.Tallies.{TallyState, TellerState}
use Rattle.tr_tally.specs.Views.{counts_in, last_of, with_count, word_of, words_for}
use Rattle.tr_tally.proofs.CountLemmas.{listed-within, some-watchers}
use Rattle.tr_tally.proofs.Steps.{publishes-as}
use Rattle.tr_tally.proofs.WordLemmas.{word-within, word_of-apart}
use Rattle.tr_tally.proofs.teller.Teller.publish_known.Goals as goal

pub store-requires : goal.store-requires
store-requires g c =
    let i = c.self.invariant in
    let k = c.self.inside.stream in
    let n = c.args.n in
    let asked = c.words.inside.asked in
    let v = c.self.inside.token.me.0 in
    let tally = c.words.view_is ∙ c.deref-words.ensures in
    let streams = ap (λ (t : TallyState). t.streams) tally in
    let watchers = ap (λ (t : TallyState). t.watchers) tally in
    let lt : k < asked.streams = omega (arith, i.3, streams) in
    let some : 0 < asked.watchers = omega (arith, watchers, some-watchers c.self.inside.is_watched _ i.2 c.if-self.true) in
    let within = word-within asked _ k c.words.invariant.1 some lt in
    let up : last_of (counts_in v) ≤ g.K.Count.count =
    omega (
      arith,
      listed-within c.self.inside.is_watched (counts_in v) c.self.inside.count i.1,
      ap (λ (t : TellerState). t.count) c.self.view_is,
      c.requires.rises,
      c.requires.count,
    ) in (
      i.4 ∙ sym (ap (λ (t : TallyState). t.table) tally),
      within,
      (λ s h homes at small.
          let long : length s.words ≡ words_for asked = h.long ∙ ap words_for c.words.invariant.0 in
          let inside : word_of k < length s.words = omega (arith, long, within, c.words.invariant.1) in (
            with_count g.K.Count.count v,
            keeps,
            tt,
            publishes-as _ s.words s.views h _ v at k g.K.Count.count (counts_in v) (set s.words (word_of k) n)
                (ap (λ m. m.0) i.0) up (length-set s.words (word_of k) n)
                (λ _. get_or-set_same s.words (word_of k) n 0 inside ∙ c.requires.count)
                (λ _ j ne _. get_or-set_other s.words (word_of k) (word_of j) n 0 (word_of-apart k j ne)),
            refl,
          )),
    )
