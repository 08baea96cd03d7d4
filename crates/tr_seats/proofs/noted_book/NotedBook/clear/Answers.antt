use Rattle.std.proofs.Common.{◌∙◌, ◌∷◌, [], Err, Ok, inl, refl, subst, sym}
use Rattle.std.specs.Prelude.{IsOk}
use Rattle.tr_accounts.specs.StreamSteps.{clear_step}
use Rattle.tr_operations.specs.declared.step.DeskStep.TheVariants as step
use Rattle.tr_seats.proofs.Joins.{put-back}
use Rattle.tr_seats.proofs.OperatorLemmas.{does-elsewhere, does-here, journal-done, journal-noted}
use Rattle.tr_seats.proofs.noted_book.NotedBook.clear.Goals as goal
use Rattle.tr_seats.specs.Desks.{NotedState}
use Rattle.tr_seats.specs.Operators.{IsDeskJournal}
use Rattle.tr_session_book.specs.BookSteps.{book_clear_answer}

pub invariant_of-self : goal.invariant_of-self
invariant_of-self g c =
    let plan = g.N.Names.plan in
    let old = c.self.inside in
    let k = c.number-stream.result in
    let did = clear_step (Ok c.in-Ok.done) in
    let allowed = subst (λ (b : NotedState). IsOk (book_clear_answer b.book)) (sym c.self.view_is) c.requires.allowed in
    journal-done plan old.operators old.book old.book old.journal c.note.new.journal c.operator.inside.seat.who c.operator.invariant.2 c.note.ensures.own.each.0.0 (step.Clear k (Ok c.in-Ok.done))
    old.streams.items c.self.invariant c.note.ensures.journal (allowed, refl) k did c.index_mut.result.now c.clear.new.desk
    c.number-stream.ensures.there c.index_mut.ensures.value c.in-Ok.ensures.desk (does-here k (did ∷ []))
    (λ i apart. does-elsewhere i k (did ∷ []) apart)

pub invariant_of-self-in-Err : goal.invariant_of-self-in-Err
invariant_of-self-in-Err g c =
    let plan = g.N.Names.plan in
    let old = c.self.inside in
    let k = c.number-stream.result in
    let after = c.note-in-Err.new.journal in
    let allowed = subst (λ (b : NotedState). IsOk (book_clear_answer b.book)) (sym c.self.view_is) c.requires.allowed in
    let same = put-back old.streams.items k c.clear.new.desk c.index_mut.result.now (c.in-Err.ensures.desk ∙ c.index_mut.ensures.value) in
    subst (IsDeskJournal plan old.operators old.book after) (sym same)
    (journal-noted plan old.operators old.book old.book old.journal after c.operator.inside.seat.who c.operator.invariant.2 c.note-in-Err.ensures.own.each.0.0 (step.Clear k (Err c.clear_fault.result))
    old.streams.items c.self.invariant c.note-in-Err.ensures.journal (inl allowed, refl) (λ i. refl))
