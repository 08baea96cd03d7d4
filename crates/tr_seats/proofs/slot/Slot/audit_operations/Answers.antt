use Rattle.std.proofs.Common.{subst, sym}
use Rattle.tr_accounts.specs.Seats.{desk_seat}
use Rattle.tr_seats.proofs.AccountLemmas.{operated-by}
use Rattle.tr_seats.proofs.slot.Slot.audit_operations.Goals as goal
use Rattle.tr_seats.specs.Accounts.{IsOperatedBy, IsSeatAt}
use Rattle.tr_seats.specs.Books.{books_at}
use Rattle.tr_seats.specs.Slots.{SlotState}

pub returns-clause-operated : goal.returns-clause-operated
returns-clause-operated g c =
    let books = g.N.Names.plan.books in
    let old = c.self.inside in
    let seat = c.args.seat.now in
    let at : IsSeatAt (books_at books old.number).journal desk_seat seat =
    subst (λ (x : SlotState). IsSeatAt (books_at books x.number).journal desk_seat seat) (sym c.self.view_is) c.requires in
    subst (λ (x : SlotState). IsOperatedBy seat.own x.stream) c.self.view_is
    (operated-by (books_at books old.number).journal old.stream old.account seat c.self.invariant.3 at c.audit_of_stream.ensures.own)
