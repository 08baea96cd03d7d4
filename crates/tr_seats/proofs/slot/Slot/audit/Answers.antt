use Rattle.std.proofs.Common.{rules, ◌≡◌, ◌∙◌, ℕ, ap, subst, sym}
use Rattle.tr_accounts.specs.Seats.{producer_seat}
use Rattle.tr_seats.proofs.AccountLemmas.{account-of}
use Rattle.tr_seats.proofs.slot.Slot.audit.Goals as goal
use Rattle.tr_seats.specs.Accounts.{IsAccountOf, IsSeatAt}
use Rattle.tr_seats.specs.Books.{books_at}
use Rattle.tr_seats.specs.Slots.{ProducerState, SlotState}

pub audit-requires-5 : goal.audit-requires-5
audit-requires-5 g c =
    let books = g.N.Names.plan.books in
    let same : c.producer.inside.number ≡ c.self.inside.number = search rules in
    c.producer.invariant.3.0 ∙ ap (λ (n : ℕ). (books_at books n).journal) same ∙ sym c.self.invariant.3.table_is

pub returns-clause-accounts : goal.returns-clause-accounts
returns-clause-accounts g c =
    let books = g.N.Names.plan.books in
    let old = c.self.inside in
    let seat = c.producer.inside.account in
    let same : c.producer.inside.number ≡ old.number = search rules in
    let at : IsSeatAt (books_at books old.number).journal producer_seat seat =
    subst (λ (n : ℕ). IsSeatAt (books_at books n).journal producer_seat seat) same c.producer.invariant.3 in
    subst (λ (x : ProducerState × SlotState). IsAccountOf x.0.steps x.1.stream) (λ j. (c.producer.view_is j, c.self.view_is j))
    (account-of (books_at books old.number).journal old.stream old.account seat c.self.invariant.3 at c.audit-5.ensures.own)
