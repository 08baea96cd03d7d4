use Rattle.std.proofs.Common.{◌≡◌, Err, inr, refl, subst, sym}
use Rattle.tr_operations.specs.declared.step.DeskStep.TheVariants as step
use Rattle.tr_seats.proofs.OperatorLemmas.{journal-noted}
use Rattle.tr_seats.proofs.noted_book.NotedBook.note_refused_clear.Goals as goal
use Rattle.tr_seats.specs.Desks.{NotedState}
use Rattle.tr_session_book.specs.BookSteps.{book_clear_answer}

pub invariant_of-self : goal.invariant_of-self
invariant_of-self g c =
    let plan = g.N.Names.plan in
    let old = c.self.inside in
    let refused = subst (λ (b : NotedState). book_clear_answer b.book ≡ Err c.args.fault) (sym c.self.view_is) c.requires in
    journal-noted plan old.operators old.book old.book old.journal c.note.new.journal c.operator.inside.seat.who c.operator.invariant.2 c.note.ensures.own.each.0.0
    (step.Clear c.args.stream (Err c.args.fault)) old.streams.items c.self.invariant c.note.ensures.journal (inr refused, refl) (λ i. refl)
