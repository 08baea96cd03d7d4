use Rattle.std.proofs.Common.{◌∷◌, [], refl, rules}
use Rattle.tr_accounts.specs.StreamSteps.{switch_step}
use Rattle.tr_operations.specs.declared.step.DeskStep.TheVariants as step
use Rattle.tr_seats.proofs.OperatorLemmas.{does-elsewhere, does-here, journal-done}
use Rattle.tr_seats.proofs.noted_book.NotedBook.switch.Goals as goal

pub invariant_of-self : goal.invariant_of-self
invariant_of-self g c =
    let plan = g.N.Names.plan in
    let old = c.self.inside in
    let k = c.number-stream.result in
    let active = c.eq-active.result in
    let did = switch_step active in
    journal-done plan old.operators old.book old.book old.journal c.note.new.journal c.operator.inside.seat.who c.operator.invariant.2 c.note.ensures.own.each.0.0 (step.Switch k active) old.streams.items
    c.self.invariant c.note.ensures.journal (search rules, refl) k did c.index_mut.result.now c.switch.new.desk c.number-stream.ensures.there
    c.index_mut.ensures.value c.switch.ensures.seat (does-here k (did ∷ [])) (λ i apart. does-elsewhere i k (did ∷ []) apart)
