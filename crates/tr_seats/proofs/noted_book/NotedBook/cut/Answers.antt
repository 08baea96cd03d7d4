use Rattle.std.proofs.Common.{◌≡◌, ◌∙◌, ℕ, Err, Ok, Result, ap, refl, subst, sym}
use Rattle.std.specs.Prelude.{IsOk, is_ok}
use Rattle.tr_accounts.specs.StreamSteps.{cut_step}
use Rattle.tr_operations.specs.declared.step.DeskStep.TheVariants as step
use Rattle.tr_seats.proofs.Joins.{put-back}
use Rattle.tr_seats.proofs.OperatorLemmas.{does-elsewhere, does-here, journal-done, journal-noted}
use Rattle.tr_seats.proofs.noted_book.NotedBook.cut.Goals as goal
use Rattle.tr_seats.specs.Operators.{IsDeskJournal, cuts_at}
use Rattle.tr_session.specs.declared.faults.StepFault.TheVariants as step_fault
use Rattle.tr_session_book.specs.BookSteps.{cut_moment}
use Rattle.tr_session_book.specs.declared.faults.SessionFault.{SessionFault}

pub invariant_of-self : goal.invariant_of-self
invariant_of-self g c =
    let plan = g.N.Names.plan in
    let old = c.self.inside in
    let k = c.number-stream.result in
    let done = c.in-Ok.done in
    let due : cut_moment k old.book ≡ Ok c.args.moment =
    (λ j. cut_moment (c.number-stream.ensures.number j) (c.self.view_is j).book) ∙ c.requires.due in
    let allowed : IsOk (cut_moment k old.book) = ap is_ok due in
    let cut = cuts_at (cut_moment k old.book) done in
    journal-done plan old.operators old.book c.note_cut.new.self old.journal c.note.new.journal c.operator.inside.seat.who c.operator.invariant.2 c.note.ensures.own.each.0.0 (step.Cut k (Ok done))
    old.streams.items c.self.invariant c.note.ensures.journal (allowed, c.note_cut.ensures.after) k (cut_step c.args.moment (Ok done))
    c.index_mut.result.now c.cut.new.desk c.number-stream.ensures.there c.index_mut.ensures.value c.in-Ok.ensures.desk
    (does-here k cut ∙ ap (λ (r : Result ℕ SessionFault). cuts_at r done) due) (λ i apart. does-elsewhere i k cut apart)

pub invariant_of-self-in-Err : goal.invariant_of-self-in-Err
invariant_of-self-in-Err g c =
    let plan = g.N.Names.plan in
    let old = c.self.inside in
    let k = c.number-stream.result in
    let after = c.note-in-Err.new.journal in
    let due : cut_moment k old.book ≡ Ok c.args.moment =
    (λ j. cut_moment (c.number-stream.ensures.number j) (c.self.view_is j).book) ∙ c.requires.due in
    let allowed : IsOk (cut_moment k old.book) = ap is_ok due in
    let same = put-back old.streams.items k c.cut.new.desk c.index_mut.result.now (c.in-Err.ensures.desk ∙ c.index_mut.ensures.value) in
    subst (IsDeskJournal plan old.operators old.book after) (sym same)
    (journal-noted plan old.operators old.book old.book old.journal after c.operator.inside.seat.who c.operator.invariant.2 c.note-in-Err.ensures.own.each.0.0 (step.Cut k (Err (step_fault.Cut c.in-Err.fault)))
    old.streams.items c.self.invariant c.note-in-Err.ensures.journal (allowed, refl) (λ i. refl))
