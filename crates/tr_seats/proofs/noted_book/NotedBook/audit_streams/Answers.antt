use Rattle.std.proofs.Common.{ℕ, ◌<◌, ◌∙◌, List, get_or, length, subst, sym}
use Rattle.std.specs.Prelude.{IsTrue, ◌↔◌}
use Rattle.tr_accounts.specs.Seats.{desk_seat}
use Rattle.tr_accounts.specs.declared.step.StreamStep.{StreamStep}
use Rattle.tr_journal.specs.Journals.{JournalState, SeatState}
use Rattle.tr_operations.specs.declared.step.DeskStep.{DeskStep}
use Rattle.tr_seats.proofs.Joins.{written-back}
use Rattle.tr_seats.proofs.OperatorLemmas.{operated-all}
use Rattle.tr_seats.proofs.noted_book.NotedBook.audit_streams.Goals as goal
use Rattle.tr_seats.specs.Accounts.{IsOperatedBy, IsSeatAt}
use Rattle.tr_seats.specs.Books.{books_at}
use Rattle.tr_seats.specs.Desks.{NotedState}
use Rattle.tr_seats.specs.Operators.{AreAllOperators, IsDeskJournal}
use Rattle.tr_seats.specs.Settling.{HaveOperated, streams_of}
use Rattle.tr_seats.specs.Slots.{SlotState}

pub audit_operations-requires-clause-seats : goal.audit_operations-requires-clause-seats
audit_operations-requires-clause-seats g c =
    let books = g.N.Names.plan.books in
    subst (λ (seats : List (SeatState StreamStep)). (i : ℕ) (d : SeatState StreamStep) → i < length books
    → IsSeatAt (books_at books i).journal desk_seat (get_or seats i d)) (sym c.as_mut_slice.ensures.value)
    (λ i d lt. (c.self.invariant.each i d lt).seat_is)

pub invariant_of-self : goal.invariant_of-self
invariant_of-self g c =
    let old = c.self.inside in
    let seats = old.streams in
    let back = written-back seats.items c.audit_operations.new.seats seats.len (c.audit_operations.ensures.same.1 ∙ c.as_mut_slice.ensures.value)
    seats.ok.0 in
    subst (λ (x : JournalState DeskStep × List (SeatState StreamStep)). IsDeskJournal g.N.Names.plan old.operators old.book x.0 x.1)
    (λ j. (sym c.audit_operators.ensures.same.0 j, sym back j)) c.self.invariant

pub returns-clause-own : goal.returns-clause-own
returns-clause-own g c =
    let old = c.self.inside in
    let slots = c.args.slots.now in
    let operators = c.args.operators.now in
    let plan = g.N.Names.plan in
    let all = c.audit_operators in
    subst (λ (b : NotedState). HaveOperated plan.session.book operators all.result b.book (streams_of slots)) c.self.view_is
    (operated-all plan old.operators old.book old.journal old.streams.items operators all.result slots c.self.invariant all.ensures.own
    all.ensures.none_missing c.requires.0
    (subst (λ (seats : List (SeatState StreamStep)). (i : ℕ) (d : SeatState StreamStep) (s : SlotState) → i < length slots
    → IsOperatedBy (get_or seats i d).own (get_or slots i s).stream) c.as_mut_slice.ensures.value c.audit_operations.ensures.operated))

pub returns-clause-lent : goal.returns-clause-lent
returns-clause-lent g c =
    let all = c.audit_operators in
    subst (λ (b : NotedState). IsTrue all.result ↔ AreAllOperators b.operators c.args.operators.now) c.self.view_is all.ensures.lent
