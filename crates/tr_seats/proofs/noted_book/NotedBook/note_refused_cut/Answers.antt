use Rattle.std.proofs.Common.{Err, refl, rules}
use Rattle.tr_operations.specs.declared.step.DeskStep.TheVariants as step
use Rattle.tr_seats.proofs.OperatorLemmas.{journal-noted}
use Rattle.tr_seats.proofs.noted_book.NotedBook.note_refused_cut.Goals as goal

pub invariant_of-self : goal.invariant_of-self
invariant_of-self g c =
    let plan = g.N.Names.plan in
    let old = c.self.inside in
    journal-noted plan old.operators old.book old.book old.journal c.note.new.journal c.operator.inside.seat.who c.operator.invariant.2 c.note.ensures.own.each.0.0
    (step.Cut c.args.stream (Err c.args.fault)) old.streams.items c.self.invariant c.note.ensures.journal (search rules) (λ i. refl)
