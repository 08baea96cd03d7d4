use Rattle.std.proofs.Common.{◌≡◌, ◌<◌, ◌≤◌, [], ◌∷◌, ◌++◌, ap, ◌∙◌, sym, refl, subst, arith}
use Rattle.atomic_table.specs.Seated.{TableId}
use Rattle.atomic_table.specs.Table.{keeps}
use Rattle.tr_tally.specs.declared.rule.Asked.{Asked}
use Rattle.tr_tally.specs.Tallies.{TallyState, TellerState}
use Rattle.tr_tally.specs.Views.{HasWord, counts_in, last_of, note_of, note_view, with_count}
use Rattle.tr_tally.proofs.CountLemmas.{last_of-push, listed-last, listed-within}
use Rattle.tr_tally.proofs.Steps.{lists-as, notes-as}
use Rattle.tr_tally.proofs.WordLemmas.{has-its-word, has-word}
use Rattle.tr_tally.proofs.teller.Teller.note_known.Goals as goal

pub load-requires : goal.load-requires
load-requires g c =
    let i = c.self.invariant in
    let k = c.self.inside.stream in
    let v = c.self.inside.token.me.0 in
    let tally = c.words.view_is ∙ c.deref-words.ensures in
    let count = ap (λ (t : TellerState). t.count) c.self.view_is in
    let key = ap (λ (a : Asked). a.watchers) c.words.invariant.0 in
    let keyed = ap (λ (a : Asked). a.streams) c.words.invariant.0 in
    let watchers = ap (λ (t : TallyState). t.watchers) tally in
    let streams = ap (λ (t : TallyState). t.streams) tally in
    let up : last_of (counts_in v) ≤ g.K.Count.count =
    omega (arith, listed-within c.self.inside.is_watched (counts_in v) c.self.inside.count i.1, count, c.requires) in (
      i.4 ∙ sym (ap (λ (t : TallyState). t.table) tally),
      has-word c.words.inside.asked _ c.words.invariant.1,
      (λ s h homes at small. (
        with_count g.K.Count.count v,
        keeps,
        tt,
        lists-as _ s.words s.views h _ v at k g.K.Count.count (counts_in v) (ap (λ m. m.0) i.0) up
            (λ watched. (
              listed-last c.self.inside.is_watched (counts_in v) c.self.inside.count _ i.1 i.2 (omega (arith, watched, key, watchers)) ∙ count ∙ c.requires,
              omega (arith, i.3, streams, keyed),
            )),
        refl,
      )),
    )

pub split_seat-token-requires : goal.split_seat-token-requires
split_seat-token-requires g c =
    let i = c.self.invariant in
    let n = g.K.Count.count in
    let tally = c.words.view_is ∙ c.deref-words.ensures in
    let now = ap (λ m. m.0) c.load.ensures.2 ∙ ap (λ m. with_count n m.0) i.0 in (
      c.load.ensures.0 ∙ i.4 ∙ sym (ap (λ (t : TallyState). t.table) tally),
      has-word c.words.inside.asked _ c.words.invariant.1,
      (λ s h at. notes-as _ s.words s.views h _ _ at c.self.inside.stream (counts_in c.self.inside.token.me.0 ++ n ∷ []) now),
    )

pub invariant_of-result : goal.invariant_of-result
invariant_of-result g c =
    let i = c.self.invariant in
    let n = g.K.Count.count in
    let k = c.self.inside.stream in
    let tally = c.words.view_is ∙ c.deref-words.ensures in
    let streams = ap (λ (t : TallyState). t.streams) tally in
    let lt : k < c.words.inside.asked.streams = omega (arith, i.3, streams) in
    let table = c.split_seat-token.ensures.3 ∙ c.load.ensures.0 ∙ i.4 ∙ sym (ap (λ (t : TallyState). t.table) tally) in
    let now = ap (λ m. m.0) c.load.ensures.2 ∙ ap (λ m. with_count n m.0) i.0 in
    let count : last_of (counts_in c.self.inside.token.me.0 ++ n ∷ []) ≡ c.self.inside.count =
    last_of-push (counts_in c.self.inside.token.me.0) n ∙ sym c.requires ∙ sym (ap (λ (t : TellerState). t.count) c.self.view_is) in (
      c.split_seat-token.ensures.4 ∙ ap (λ v. (note_of v, [])) now ∙ ap (λ m. (note_view k m, [])) count,
      subst (λ (t : TableId). HasWord t.words k) (sym table) (has-its-word c.words.inside.asked _ k c.words.invariant.1 lt),
    )
