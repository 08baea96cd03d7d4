use Rattle.std.proofs.Common.{rules, ◌≡◌, ◌∙◌, ◌++◌, ◌∷◌, ◌≤◌, ◌<◌, [], ℕ, List, Ok, ap, length, subst, sym, vec_capacity}
use Rattle.tr_accounts.specs.declared.step.StreamStep.{StreamStep}
use Rattle.tr_journal.specs.Journals as journal
use Rattle.tr_ledger.specs.Ledgers.{SeatState, seat_state}
use Rattle.tr_seats.proofs.DrainerLemmas.{first-more, split-here, split-made}
use Rattle.tr_seats.proofs.drainer.DrainerBegun.with.Goals as goal
use Rattle.tr_seats.specs.Accounts.{IsTakeSeat}
use Rattle.tr_seats.specs.Books.{books_at}
use Rattle.tr_seats.specs.Drainers.{AreFirst}
use Rattle.tr_seats.specs.Slots.{slot_split_answer}

pub invariant_of-self : goal.invariant_of-self
invariant_of-self g c =
    let books = g.N.Names.plan.books in
    let seats = c.self.inside.seats in
    let takes = c.self.inside.takes in
    let slot = c.args.slot.now in
    let seat = c.in_ok-seat.seat in
    let noted = c.in_ok-seat.takes in
    let k : c.len-i.result ≡ length seats.items = search rules in
    let lt : length seats.items < length books = subst (λ (n : ℕ). n < length books) (sym c.self.view_is) c.requires in
    let answer : Ok seat ≡ slot_split_answer books c.len-i.result slot = search rules in
    let made = split-made books c.len-i.result slot seat answer ∙ ap (λ (n : ℕ). seat_state (books_at books n).consumed 0 1) k in
    let number : slot.number ≡ length seats.items = sym (split-here books c.len-i.result slot seat answer) ∙ k in
    let theirs : IsTakeSeat (books_at books (length seats.items)).journal noted =
    subst (λ (n : ℕ). IsTakeSeat (books_at books n).journal noted) number c.in_ok-seat.ensures.takes.0 in
    let items : c.push_reserved.new.self.items ≡ seats.items ++ seat ∷ [] = search rules in
    let more : c.push_reserved-2.new.self.items ≡ takes.items ++ noted ∷ [] = search rules in
    let room : length books ≤ vec_capacity c.push_reserved.new.self = search rules in
    let place : length books ≤ vec_capacity c.push_reserved-2.new.self = search rules in (
      subst (λ (x : List SeatState × List (journal.SeatState StreamStep)). AreFirst books x.0 x.1) (λ j. (sym items j, sym more j))
          (first-more books seats.items takes.items seat noted c.self.invariant.0 lt made theirs c.in_ok-seat.ensures.takes.1),
      room,
      place,
    )
