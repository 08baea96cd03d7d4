use Rattle.std.proofs.Common.{rules, ◌≡◌, ◌∙◌, ℕ, ap, subst, sym}
use Rattle.tr_book.specs.Snaps.{SnapState}
use Rattle.tr_shared.proofs.ShownLemmas.{IsOver, planned-over, shown-records, shows-last}
use Rattle.tr_shared.proofs.looking.look.Goals as goal
use Rattle.tr_seats.specs.Books.{IsPlanned}
use Rattle.tr_shared.specs.Shown.{IsShownFrom}
use Rattle.tr_snapshot.specs.Snapshots.{entries_shown}
use Rattle.tr_stream.specs.Consistent.{IsConsistent}
use Rattle.tr_stream.specs.Kept.{IsKept}

pub returns-clause-number : goal.returns-clause-number
returns-clause-number g c =
    let slot = c.args.slot.now in
    let made : IsOver slot.number slot.stream.config =
    planned-over g.N.Names.plan slot.number slot.stream.config c.requires.plan c.requires.mode c.shows_planned.ensures.planned in
    let here : c.args.i ≡ slot.number = search rules in
    ap (λ (s : SnapState). s.stream) c.in_ok-peek_out.ensures.value ∙ made.number ∙ sym here

pub returns-clause-from : goal.returns-clause-from
returns-clause-from g c =
    let slot = c.args.slot.now in
    let made : IsOver slot.number slot.stream.config =
    planned-over g.N.Names.plan slot.number slot.stream.config c.requires.plan c.requires.mode c.shows_planned.ensures.planned in
    let kept : IsKept slot.stream = c.shows_planned.ensures.kept in
    let is : IsConsistent slot.stream = c.shows_planned.ensures.consistent in
    subst (IsShownFrom slot.stream.counters.overwritten) (sym c.in_ok-peek_out.ensures.value)
    (shows-last c.args.moment slot.stream kept.sound is made.mode made.session)

pub returns-clause-look : goal.returns-clause-look
returns-clause-look g c =
    let slot = c.args.slot.now in
    let here : c.args.i ≡ slot.number = search rules in
    record {
      kept = c.shows_planned.ensures.kept;
      planned = subst (λ (i : ℕ). IsPlanned g.N.Names.plan i slot.stream.config) (sym here) c.shows_planned.ensures.planned;
      value = c.in_ok-peek_out.ensures.value;
    }

pub returns-clause-records : goal.returns-clause-records
returns-clause-records g c =
    let slot = c.args.slot.now in
    ap entries_shown c.in_ok-peek_out.ensures.value ∙ shown-records c.args.moment slot.stream
