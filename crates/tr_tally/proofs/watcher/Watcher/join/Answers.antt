use Rattle.std.proofs.Common.{◌<◌, length, ap, ◌∙◌, sym, subst, arith}
use Rattle.tr_tally.specs.Tallies.{NoteState, TallyState, WatcherState}
use Rattle.tr_tally.specs.Views.{HasWord, answers_in}
use Rattle.tr_tally.proofs.Steps.{joins-as}
use Rattle.tr_tally.proofs.WordLemmas.{has-word, stream-within}
use Rattle.tr_tally.proofs.watcher.Watcher.join.Goals as goal

pub join_seat-requires : goal.join_seat-requires
join_seat-requires g c =
    let i = c.self.invariant in
    let j = c.note.invariant in
    let asked = c.words.inside.asked in
    let k = c.note.inside.stream in
    let tally = c.words.view_is ∙ c.deref-words.ensures in
    let table = ap (λ (t : TallyState). t.table) tally in
    let own = ap (λ (w : WatcherState). w.table) c.self.view_is in
    let same = ap (λ (n : NoteState). n.table) c.note.view_is ∙ c.requires ∙ sym own ∙ i.3 ∙ sym table in
    let has = subst (λ z. HasWord z.words k) same j.1 in
    let watched : 0 < asked.watchers = omega (arith, i.2, ap (λ (t : TallyState). t.watchers) tally) in
    let among = stream-within asked _ k c.words.invariant.1 watched has in
    let lt : k < length (answers_in c.self.inside.token.me.0) =
    omega (arith, among, i.1, ap (λ (t : TallyState). t.streams) tally) in (
      i.3 ∙ sym table,
      same,
      ap (λ m. m.1) j.0,
      has-word asked _ c.words.invariant.1,
      (λ s h at apart there.
          joins-as _ s.words s.views h _ _ at _ _ _ _ _ (ap (λ m. m.0) i.0) (ap (λ m. m.0) j.0) lt apart there),
    )
