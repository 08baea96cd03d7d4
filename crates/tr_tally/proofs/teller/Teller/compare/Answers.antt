use Rattle.std.proofs.Common.{ap, ◌∙◌, sym, refl}
use Rattle.atomic_table.specs.Table.{keeps}
use Rattle.tr_tally.specs.Tallies.{TallyState, TellerState}
use Rattle.tr_tally.specs.Views.{count_in, note_view, with_answer_beside, without_answer}
use Rattle.tr_tally.proofs.Steps.{compared-as, compares-as}
use Rattle.tr_tally.proofs.WordLemmas.{has-word}
use Rattle.tr_tally.proofs.teller.Teller.compare.Goals as goal

pub join_seat-requires : goal.join_seat-requires
join_seat-requires g c =
    let i = c.self.invariant in
    let w = c.args.answer.me.0 in
    let tally = c.words.view_is ∙ c.deref-words.ensures in
    let table = ap (λ (t : TallyState). t.table) tally in
    let own = ap (λ (t : TellerState). t.table) c.self.view_is in
    let stream = ap (λ (t : TellerState). t.stream) c.self.view_is in
    let is_note = ap (λ m. m.0) c.requires.stream ∙ ap (λ k. note_view k (count_in w)) (sym stream) in (
      i.4 ∙ sym table,
      c.requires.table ∙ sym own ∙ i.4 ∙ sym table,
      ap (λ m. m.1) c.requires.stream,
      has-word c.words.inside.asked _ c.words.invariant.1,
      (λ s h at apart there.
          compares-as _ s.words s.views h _ _ at _ (count_in w) _ _ w (ap (λ m. m.0) i.0) is_note apart there),
    )

pub load-requires : goal.load-requires
load-requires g c =
    let i = c.self.invariant in
    let w = c.args.answer.me.0 in
    let tally = c.words.view_is ∙ c.deref-words.ensures in
    let stream = ap (λ (t : TellerState). t.stream) c.self.view_is in
    let is = ap (λ m. m.0) i.0 in
    let is_note = ap (λ m. m.0) c.requires.stream ∙ ap (λ k. note_view k (count_in w)) (sym stream) in
    let beside = ap (λ m. m.0) c.join_seat.ensures.2 ∙ (λ k. with_answer_beside (is k) (is_note k)) in (
      c.join_seat.ensures.0 ∙ i.4 ∙ sym (ap (λ (t : TallyState). t.table) tally),
      has-word c.words.inside.asked _ c.words.invariant.1,
      (λ s h homes at small.
          let known = compared-as _ s.words s.views h _ c.join_seat.new.seat.me.0 at _ _ _ beside in
          (without_answer c.join_seat.new.seat.me.0, keeps, tt, known.0, (refl, known.1))),
    )
