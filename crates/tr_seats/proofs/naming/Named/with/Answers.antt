use Rattle.std.proofs.Common.{rules, ◌≡◌, ◌∙◌, ◌++◌, ◌∷◌, ◌+◌, [], ℕ, Some, List, ap, length, subst, sym, arith}
use Rattle.std.proofs.lemmas.Grind.{common_steps}
use Rattle.std.specs.Prelude.{slice_get}
use Rattle.std.proofs.lemmas.List.{length_push}
use Rattle.tr_accounts.specs.Seats.{desk_seat}
use Rattle.tr_accounts.specs.declared.step.StreamStep.{StreamStep}
use Rattle.tr_journal.specs.Journals as journal
use Rattle.tr_ledger.specs.Ledgers.{SeatState, seat_state}
use Rattle.tr_seats.proofs.NameLemmas.{named-more}
use Rattle.tr_seats.proofs.naming.Named.with.Goals as goal
use Rattle.tr_seats.proofs.OperatorLemmas.{new-desk-more}
use Rattle.tr_seats.specs.Accounts.{IsSeatAt}
use Rattle.tr_seats.specs.Books.{books_at}
use Rattle.tr_seats.specs.Operators.{AreNewDeskSeats}
use Rattle.tr_seats.specs.Plans.{AreNamed}
use Rattle.tr_seats.specs.Slots.{ProducerState, SlotState, new_producer, slot_state}

pub invariant_of-result : goal.invariant_of-result
invariant_of-result g c =
    let plan = g.N.Names.plan in
    let old = c.self.inside in
    let k : length old.slots.items ≡ c.args.self = c.self.view_is in
    let t = c.args.planned.stream in
    let b = c.args.planned.books in
    let got : slice_get plan.session.streams (length old.slots.items) ≡ Some t = ap (slice_get plan.session.streams) k ∙ c.requires.stream in
    let at : slice_get plan.books (length old.slots.items) ≡ Some b = ap (slice_get plan.books) k ∙ c.requires.books in
    let n : ℕ = length old.slots.items in
    let e1 : c.push.new.self.items ≡ old.slots.items ++ slot_state n t 0 ∷ [] = search rules in
    let e2 : c.push-2.new.self.items ≡ old.producers.items ++ new_producer n ∷ [] = search rules in
    let e3 : c.push-3.new.self.items ≡ old.consumed.items ++ seat_state b.consumed 0 1 ∷ [] = search rules in
    let e4 : c.push-4.new.self.items ≡ old.cuts.items ++ seat_state b.cuts 0 1 ∷ [] = search rules in
    let e5 : c.push-5.new.self.items ≡ old.cleared.items ++ seat_state b.cleared 0 1 ∷ [] = search rules in
    let operations = c.named_as-slot.result.2.operations in
    let e6 : c.push-6.new.self.items ≡ old.operations.items ++ operations ∷ [] = search rules in
    let many : length c.push.new.self.items ≡ n + 1 = ap length e1 ∙ length_push old.slots.items (slot_state n t 0) in
    let number : c.len.result ≡ n = search rules in
    let theirs : IsSeatAt (books_at plan.books n).journal desk_seat operations =
    subst (λ m. IsSeatAt (books_at plan.books m).journal desk_seat operations) number c.named_as-slot.ensures.operations.0 in (
      subst (λ (x : List SlotState × List ProducerState × List SeatState × List SeatState × List SeatState). AreNamed plan x.0 x.1 x.2 x.3 x.4)
          (λ j. (sym e1 j, sym e2 j, sym e3 j, sym e4 j, sym e5 j))
          (named-more plan old.slots.items old.producers.items old.consumed.items old.cuts.items old.cleared.items
          c.self.invariant.0 t b got at),
      subst (λ (x : ℕ × List (journal.SeatState StreamStep)). AreNewDeskSeats x.0 plan.books x.1) (λ j. (sym many j, sym e6 j))
          (new-desk-more n plan.books old.operations.items operations c.self.invariant.1 theirs c.named_as-slot.ensures.operations.1),
    )

pub returns : goal.returns
returns g c = grind (arith, common_steps)
