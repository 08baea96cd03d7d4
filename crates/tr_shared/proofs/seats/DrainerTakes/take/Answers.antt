use Rattle.std.proofs.Common.{rules, ◌≡◌, subst}
use Rattle.tr_seats.specs.Books.{IsPlanned}
use Rattle.tr_seats.specs.Slots.{SlotState}
use Rattle.tr_shared.proofs.ModeLemmas.{take-mode}
use Rattle.tr_shared.proofs.seats.DrainerTakes.take.Goals as goal

pub returns : goal.returns
returns g c =
    let slot : SlotState = c.deref_mut.result.now in
    let same : c.deref.result.now ≡ slot = search rules in
    let own : IsPlanned g.N.Names.plan slot.number slot.stream.config =
    subst (λ (s : SlotState). IsPlanned g.N.Names.plan s.number s.stream.config) same c.shows_planned.ensures.planned in
    record {
      seats = c.take.ensures.seats;
      some = c.take.ensures.some;
      mode = take-mode g.N.Names.plan c.args.i slot c.take.result own (λ not. (c.take.ensures.value not).0) c.take.ensures.memory;
    }
