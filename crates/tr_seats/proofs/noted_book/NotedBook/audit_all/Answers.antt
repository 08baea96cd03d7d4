use Rattle.std.proofs.Common.{subst, sym}
use Rattle.tr_journal.specs.Journals.{JournalState}
use Rattle.tr_operations.specs.declared.step.DeskStep.{DeskStep}
use Rattle.tr_seats.proofs.OperatorLemmas.{done-by-all}
use Rattle.tr_seats.proofs.noted_book.NotedBook.audit_all.Goals as goal
use Rattle.tr_seats.specs.Desks.{NotedState}
use Rattle.tr_seats.specs.Histories.{operations_in}
use Rattle.tr_seats.specs.Operators.{HaveDone, IsDeskJournal}

pub invariant_of-self : goal.invariant_of-self
invariant_of-self g c =
    let old = c.self.inside in
    subst (λ (j : JournalState DeskStep). IsDeskJournal g.N.Names.plan old.operators old.book j old.streams.items)
    (sym c.audit_operators.ensures.same.0) c.self.invariant

pub returns-clause-own : goal.returns-clause-own
returns-clause-own g c =
    let plan = g.N.Names.plan in
    let old = c.self.inside in
    let operators = c.args.operators.now in
    let all = c.audit_operators in (
      operations_in old.streams.items,
      subst (λ (b : NotedState). HaveDone plan.session.book operators all.result b.book (operations_in old.streams.items)) c.self.view_is
          (done-by-all plan old.operators old.book old.journal old.streams.items operators all.result c.self.invariant all.ensures.own
          all.ensures.none_missing),
    )
