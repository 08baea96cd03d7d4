use Rattle.std.proofs.Common.{◌<◌, length, ap, ◌∙◌, sym, refl, arith}
use Rattle.std.specs.Prelude.{slice_index}
use Rattle.atomic_table.specs.Table.{keeps}
use Rattle.tr_tally.specs.declared.rule.Asked.{Asked}
use Rattle.tr_tally.specs.Tallies.{TallyState, WatcherState}
use Rattle.tr_tally.specs.Views.{stream_at, with_answer, word_of}
use Rattle.tr_tally.proofs.Steps.{reads-as}
use Rattle.tr_tally.proofs.WordLemmas.{word-within}
use Rattle.tr_tally.proofs.watcher.Watcher.read.Goals as goal

pub load-requires : goal.load-requires
load-requires g c =
    let i = c.self.invariant in
    let k = c.args.i in
    let asked = c.words.inside.asked in
    let v = c.self.inside.token.me.0 in
    let tally = c.words.view_is ∙ c.deref-words.ensures in
    let key = c.words.invariant.0 in
    let watchers = ap (λ (t : TallyState). t.watchers) tally in
    let streams = ap (λ (t : TallyState). t.streams) tally in
    let answers = ap (λ (w : WatcherState). length w.answers) c.self.view_is in
    let watched : 0 < asked.watchers = omega (arith, i.2, watchers) in
    let lt : k < asked.streams = omega (arith, c.requires, answers, i.1, streams) in
    let watched_key : 0 < c.words.inside.table.shared.key.watchers = omega (arith, watched, ap (λ (a : Asked). a.watchers) key) in
    let lt_key : k < c.words.inside.table.shared.key.streams = omega (arith, lt, ap (λ (a : Asked). a.streams) key) in
    let wide = i.1 ∙ sym streams ∙ sym (ap (λ (a : Asked). a.streams) key) in (
      i.3 ∙ sym (ap (λ (t : TallyState). t.table) tally),
      word-within asked _ k c.words.invariant.1 watched lt,
      (λ s h homes at small.
          let read = reads-as _ s.words s.views h _ v at _ k (ap (λ m. m.0) i.0) watched_key lt_key wide in
          (with_answer (stream_at (word_of k)) (slice_index s.words (word_of k)) v, keeps, tt, read.0, (refl, read.1))),
    )
