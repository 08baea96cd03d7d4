use Rattle.std.proofs.Common.{subst}
use Rattle.tr_accounts.specs.StreamSteps.{taken_in}
use Rattle.tr_seats.proofs.AccountLemmas.{taken-from}
use Rattle.tr_seats.proofs.slot.Slot.audit_takes.Goals as goal
use Rattle.tr_seats.specs.Accounts.{IsTakenFrom}
use Rattle.tr_seats.specs.Books.{books_at}
use Rattle.tr_seats.specs.Slots.{SlotState}

pub returns-clause-taken : goal.returns-clause-taken
returns-clause-taken g c =
    let old = c.self.inside in
    let seat = c.args.seat.now in
    subst (λ (x : SlotState). IsTakenFrom (taken_in seat.own) x.stream) c.self.view_is
    (taken-from (books_at g.N.Names.plan.books old.number).journal old.stream old.account seat c.self.invariant.3
    c.shows_kept.ensures.kept c.audit_of_stream.ensures.own)
