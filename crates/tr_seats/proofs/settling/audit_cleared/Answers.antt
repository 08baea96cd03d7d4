use Rattle.std.proofs.Common.{◌≡◌, ◌<◌, ap, arith, below_more, get_or, length, map, refl, subst, sym, ◌∙◌}
use Rattle.std.proofs.lemmas.List.{length-map}
use Rattle.tr_ledger.specs.Ledgers.{SeatState}
use Rattle.tr_seats.proofs.Joins.{put-back, read-same, tables-length}
use Rattle.tr_seats.proofs.Rows.{cleared-beside}
use Rattle.tr_seats.proofs.settling.audit_cleared.Goals as goal
use Rattle.tr_seats.specs.Books.{Books, cleared_books}
use Rattle.tr_seats.specs.Settling.{AreInPlace}
use Rattle.tr_seats.specs.Slots.{SlotState}
use Rattle.tr_seats.specs.Sums.{totals_in}

pub audit_cleared-requires : goal.audit_cleared-requires
audit_cleared-requires g c =
    let v = c.loop-i.invariant in
    let tables = ap (map (λ (s : SeatState). s.table)) v.seats_same ∙ c.requires.seats in
    cleared-beside g.N.Names.plan.books c.loop-i.seats c.loop-i.slots c.loop-i.i c.index-seats-i.result c.index-slots-i.result tables
    (ap length v.slots_same ∙ c.requires.slots.0) (subst AreInPlace (sym v.slots_same) c.requires.slots.1)
    (subst (λ n. c.loop-i.i < n) (ap length (sym v.slots_same)) c.loop-i-test.true)

pub loop-i-init : goal.loop-i-init
loop-i-init g c =
    let books = g.N.Names.plan.books in
    let seats = tables-length (cleared_books books) c.args.seats.now c.requires.seats in
    record {
      slots_same = refl;
      seats_same = refl;
      wide = seats ∙ length-map books (λ (b : Books). b.cleared) ∙ sym c.requires.slots.0;
      whole = λ k d s lt. absurd (omega (arith, lt));
    }

pub loop-i-preserved : goal.loop-i-preserved
loop-i-preserved g c =
    let v = c.loop-i.invariant in
    let i = c.loop-i.i in
    let slots = c.args.slots.now in
    let seats = c.args.seats.now in
    let there : i < length slots = c.loop-i-test.true in
    let long : i < length seats = omega (arith, there, v.wide, ap length v.slots_same, ap length v.seats_same) in
    let slots_same = put-back c.loop-i.slots i c.audit_cleared.new.self c.index-slots-i.result c.audit_cleared.ensures.same.0 ∙ v.slots_same in
    let seats_same = put-back c.loop-i.seats i c.audit_cleared.new.mine c.index-seats-i.result c.audit_cleared.ensures.same.1 ∙ v.seats_same in
    record {
      slots_same = slots_same;
      seats_same = seats_same;
      wide = ap length seats_same ∙ omega (arith, v.wide, ap length v.slots_same, ap length v.seats_same) ∙ sym (ap length slots_same);
      whole = λ k d s.
          below_more (λ k. (get_or seats k d).mark ≡ 1 → (get_or seats k d).amount ≡ (totals_in (get_or slots k s).stream).cleared) i
          (λ k lt. v.whole k d s lt)
          (λ marked.
          let seat = read-same c.loop-i.seats seats i c.index-seats-i.result d v.seats_same long in
          let slot = read-same c.loop-i.slots slots i c.index-slots-i.result s v.slots_same there in
          ap (λ (s : SeatState). s.amount) (sym seat)
          ∙ c.audit_cleared.ensures.whole (ap (λ (s : SeatState). s.mark) seat ∙ marked)
          ∙ ap (λ (s : SlotState). (totals_in s.stream).cleared) slot)
          k;
    }

pub returns-clause-whole : goal.returns-clause-whole
returns-clause-whole g c = λ k d s lt. c.loop-i.invariant.whole k d s (omega (arith, lt, c.loop-i-test.false))
