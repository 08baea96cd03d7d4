use Rattle.std.proofs.Common.{refl}
use Rattle.tr_operations.specs.declared.step.DeskStep.TheVariants as step
use Rattle.tr_seats.proofs.OperatorLemmas.{journal-noted}
use Rattle.tr_seats.proofs.noted_book.NotedBook.start.Goals as goal

pub invariant_of-self : goal.invariant_of-self
invariant_of-self g c =
    let plan = g.N.Names.plan in
    let old = c.self.inside in
    journal-noted plan old.operators old.book c.start-answer.new.self old.journal c.note.new.journal c.operator.inside.seat.who c.operator.invariant.2 c.note.ensures.own.each.0.0
    (step.Start c.args.moment c.start-answer.result) old.streams.items c.self.invariant c.note.ensures.journal (c.start-answer.ensures.answer, c.start-answer.ensures.after) (λ i. refl)
