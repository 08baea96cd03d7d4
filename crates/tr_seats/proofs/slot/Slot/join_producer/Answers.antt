use Rattle.std.proofs.Common.{rules, ◌≡◌, ◌∙◌, ℕ, ap, subst, sym}
use Rattle.tr_accounts.specs.Seats.{producer_seat}
use Rattle.tr_seats.proofs.HistoryLemmas.{history-of}
use Rattle.tr_seats.proofs.slot.Slot.join_producer.Goals as goal
use Rattle.tr_seats.specs.Accounts.{IsSeatAt}
use Rattle.tr_seats.specs.Books.{books_at}
use Rattle.tr_seats.specs.Histories.{IsDeskWith, IsHistoryOf, takes_joined}
use Rattle.tr_seats.specs.Slots.{ProducerState, SlotState}

pub returns-clause-history : goal.returns-clause-history
returns-clause-history g c =
    let books = g.N.Names.plan.books in
    let old = c.self.inside in
    let desk = c.args.desk.now in
    let seat = c.producer.inside.account in
    let number : c.args.self.now.number ≡ old.number = sym (ap (λ (s : SlotState). s.number) c.self.view_is) in
    let same : c.producer.inside.number ≡ old.number = search rules in
    let at : IsSeatAt (books_at books old.number).journal producer_seat seat =
    subst (λ (n : ℕ). IsSeatAt (books_at books n).journal producer_seat seat) same c.producer.invariant.3 in
    let with : IsDeskWith (books_at books old.number).journal desk =
    subst (λ (n : ℕ). IsDeskWith (books_at books n).journal desk) number c.requires.desk in
    subst (λ (x : ProducerState × SlotState). IsHistoryOf x.0.steps (takes_joined desk) desk.own x.1.stream)
    (λ j. (c.producer.view_is j, c.self.view_is j))
    (history-of (books_at books old.number).journal old.stream old.consumed.made old.account desk seat c.join.new.desk c.self.invariant.3 with
    at.1 at.2 (c.requires.all ∙ sym (ap (λ (s : SlotState). s.made) c.self.view_is)) c.join.ensures.seat c.join.ensures.own)
