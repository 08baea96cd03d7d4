use Rattle.std.proofs.Common.{◌≡◌, ◌<◌, ◌∙◌, ap, arith, below_more, get_or, length, subst, sym}
use Rattle.tr_accounts.specs.Seats.{desk_seat}
use Rattle.tr_accounts.specs.declared.step.StreamStep.{StreamStep}
use Rattle.tr_journal.specs.Journals.{SeatState}
use Rattle.tr_seats.proofs.Joins.{put-back, read-same}
use Rattle.tr_seats.proofs.histories.audit_operations.Goals as goal
use Rattle.tr_seats.specs.Accounts.{IsOperatedBy, IsSeatAt}
use Rattle.tr_seats.specs.Books.{books_at}
use Rattle.tr_seats.specs.Settling.{AreInPlace}
use Rattle.tr_seats.specs.Slots.{SlotState}

pub audit_operations-requires : goal.audit_operations-requires
audit_operations-requires g c =
    let v = c.loop-i.invariant in
    let books = g.N.Names.plan.books in
    let i = c.loop-i.i in
    let d = c.index-seats-i.result in
    let s = c.index-slots-i.result in
    let there : i < length books = omega (arith, c.loop-i-test.true, c.requires.slots.0) in
    let within : i < length c.loop-i.slots = subst (λ n. i < n) (ap length (sym v.slots_same)) c.loop-i-test.true in
    let number : (get_or c.loop-i.slots i s).number ≡ i = subst AreInPlace (sym v.slots_same) c.requires.slots.1 i s within in
    subst (λ n. IsSeatAt (books_at books n).journal desk_seat (get_or c.loop-i.seats i d)) (sym number)
    (subst (λ l. IsSeatAt (books_at books i).journal desk_seat (get_or l i d)) (sym v.seats_same) (c.requires.seats i d there))

pub loop-i-preserved : goal.loop-i-preserved
loop-i-preserved g c =
    let v = c.loop-i.invariant in
    let i = c.loop-i.i in
    let slots = c.args.slots.now in
    let seats = c.args.seats.now in
    let there : i < length slots = c.loop-i-test.true in
    let long : i < length seats = omega (arith, there, c.requires.slots.0, c.requires.many) in
    record {
      slots_same = put-back c.loop-i.slots i c.audit_operations.new.self c.index-slots-i.result c.audit_operations.ensures.same.0 ∙ v.slots_same;
      seats_same = put-back c.loop-i.seats i c.audit_operations.new.seat c.index-seats-i.result c.audit_operations.ensures.same.1 ∙ v.seats_same;
      operated = λ k d s.
          below_more (λ k. IsOperatedBy (get_or seats k d).own (get_or slots k s).stream) i
          (λ k lt. v.operated k d s lt)
          (let seat = read-same c.loop-i.seats seats i c.index-seats-i.result d v.seats_same long in
          let slot = read-same c.loop-i.slots slots i c.index-slots-i.result s v.slots_same there in
          subst (λ (x : SeatState StreamStep × SlotState). IsOperatedBy x.0.own x.1.stream) (λ j. (seat j, slot j))
          c.audit_operations.ensures.operated)
          k;
    }

pub returns-clause-operated : goal.returns-clause-operated
returns-clause-operated g c = λ k d s lt. c.loop-i.invariant.operated k d s (omega (arith, lt, c.loop-i-test.false))
