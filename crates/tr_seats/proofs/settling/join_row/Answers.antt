use Rattle.std.proofs.Common.{◌≡◌, ◌+◌, ◌<◌, ◌≤◌, List, length, map, get_or, refl, set, ap, ◌∙◌, subst, sym, arith}
use Rattle.std.proofs.lemmas.Grind.{common_steps}
use Rattle.std.specs.Prelude.{sum}
use Rattle.std.proofs.lemmas.List.{get_or_default, length-drop, length-map, take_all}
use Rattle.std.proofs.lemmas.Option.{get_or_from_slice_get}
use Rattle.std.proofs.Math.Seq.{map-set_same}
use Rattle.tr_ledger.specs.Ledgers.{SeatState, seat_state}
use Rattle.tr_seats.proofs.Joins.{amounts-joined, parts-joined, raised-before, raised-from, tables-length}
use Rattle.tr_seats.proofs.Rows.{consumed-beside, drop-front}
use Rattle.tr_seats.proofs.settling.join_row.Goals as goal
use Rattle.tr_seats.specs.Books.{Books, consumed_books}
use Rattle.tr_seats.specs.Settling.{AreInPlace}
use Rattle.tr_seats.specs.Slots.{amounts_of}

pub join_at-requires-clause-mine : goal.join_at-requires-clause-mine
join_at-requires-clause-mine g c = λ d s.
    let books = g.N.Names.plan.books in
    let i = c.loop-seat.i in
    let v = c.loop-seat.invariant.2 in
    let theirs = c.args.theirs.items in
    let front = drop-front theirs i c.in-Some.seat c.next.new.self.rest.items (v.left ∙ c.in-Some.ensures.steps.0) in
    let many = tables-length (consumed_books books) theirs c.requires.theirs.0 in
    let wide = length-map books (λ (b : Books). b.consumed) in
    let slots : length c.loop-seat.slots ≡ length books = ap length v.slots_same ∙ c.requires.slots.0 in
    let there : i < length c.loop-seat.slots = omega (arith, slots, many, wide, front.2) in
    consumed-beside books c.loop-seat.seats c.loop-seat.slots i d s v.tables slots
    (subst AreInPlace (sym v.slots_same) c.requires.slots.1) there

pub join_at-requires-clause-other : goal.join_at-requires-clause-other
join_at-requires-clause-other g c = λ s.
    let books = g.N.Names.plan.books in
    let i = c.loop-seat.i in
    let v = c.loop-seat.invariant.2 in
    let theirs = c.args.theirs.items in
    let x = c.in-Some.seat in
    let front = drop-front theirs i x c.next.new.self.rest.items (v.left ∙ c.in-Some.ensures.steps.0) in
    let many = tables-length (consumed_books books) theirs c.requires.theirs.0 in
    let wide = length-map books (λ (b : Books). b.consumed) in
    let slots : length c.loop-seat.slots ≡ length books = ap length v.slots_same ∙ c.requires.slots.0 in
    let there : i < length c.loop-seat.slots = omega (arith, slots, many, wide, front.2) in
    ap (λ (s : SeatState). s.table) (sym (get_or_from_slice_get theirs i x x front.0))
    ∙ consumed-beside books theirs c.loop-seat.slots i x s c.requires.theirs.0 slots
    (subst AreInPlace (sym v.slots_same) c.requires.slots.1) there

pub loop-seat-preserved : goal.loop-seat-preserved
loop-seat-preserved g c =
    let books = g.N.Names.plan.books in
    let i = c.loop-seat.i in
    let v = c.loop-seat.invariant.2 in
    let old = c.args.seats.now in
    let theirs = c.args.theirs.items in
    let seats = c.loop-seat.seats in
    let x = c.in-Some.seat in
    let was = get_or seats i x in
    let new = seat_state was.table (was.amount + x.amount) (was.mark + x.mark) in
    let is : c.join_at.new.seats ≡ set seats i new = c.join_at.ensures.seats x in
    let front = drop-front theirs i x c.next.new.self.rest.items (v.left ∙ c.in-Some.ensures.steps.0) in
    let wide = length-map books (λ (b : Books). b.consumed) in
    let many : length theirs ≡ length books = tables-length (consumed_books books) theirs c.requires.theirs.0 ∙ wide in
    let row : length seats ≡ length books = tables-length (consumed_books books) seats v.tables ∙ wide in
    let here : i < length seats = omega (arith, row, many, front.2) in
    let below : i < length books = omega (arith, many, front.2) in
    let within : i < length theirs = omega (arith, front.2) in
    let one : x.mark ≡ 1 = ap (λ (s : SeatState). s.mark) (sym (get_or_from_slice_get theirs i x x front.0)) ∙ c.requires.theirs.1 i x within in
    let any : was ≡ get_or seats i new = get_or_default seats i x new here in
    let amount : new.amount ≡ (get_or seats i new).amount + x.amount = ap (λ (s : SeatState). s.amount + x.amount) any in
    let mark : new.mark ≡ (get_or seats i new).mark + 1 = λ k. (any k).mark + one k in
    let rest : c.loop-seat.seat-iterator.rest.len ≡ c.next.new.self.rest.len + 1 =
    omega (arith, c.loop-seat.seat-iterator.rest.ok.0, c.next.new.self.rest.ok.0, ap length c.in-Some.ensures.steps.0) in
    let slots_same = c.join_at.ensures.slots ∙ v.slots_same in
    let tables = map-set_same (λ (s : SeatState). s.table) seats i new x refl ∙ v.tables in
    let long = ap length is in
    let marks = parts-joined old seats (length books) i new here (λ (s : SeatState). s.mark) (λ k. 1) below v.marks mark in
    let amounts = amounts-joined old seats (length books) i new here theirs x (sum (amounts_of old)) amount front.0 v.amounts in (
      tt,
      tt,
      record {
        slots_same = slots_same;
        left = front.1;
        within = front.2;
        slots_left = omega (arith, rest, v.slots_left, ap length slots_same, ap length v.slots_same);
        seats_left = omega (arith, rest, v.seats_left, long, row, tables-length (consumed_books books) (set seats i new) tables, wide);
        tables = ap (map (λ (s : SeatState). s.table)) is ∙ tables;
        marks = λ k d lt. ap (λ (l : List SeatState). (get_or l k d).mark) is ∙ marks k d lt;
        each = λ k d e lt.
            let given = get_or_from_slice_get theirs i x e front.0 in
            let more : new.amount ≡ (get_or seats i new).amount + (get_or theirs i e).amount =
            amount ∙ ap (λ (s : SeatState). (get_or seats i new).amount + s.amount) (sym given) in
            ap (λ (l : List SeatState). (get_or l k d).amount) is
            ∙ parts-joined old seats (length books) i new here (λ (s : SeatState). s.amount) (λ k. (get_or theirs k e).amount) below
            (λ k d lt. v.each k d e lt) more k d lt;
        amounts = ap (λ (l : List SeatState). sum (amounts_of l)) is ∙ amounts;
      },
    )

pub loop-seat-init : goal.loop-seat-init
loop-seat-init g c =
    let books = g.N.Names.plan.books in
    let wide = length-map books (λ (b : Books). b.consumed) in
    let many : length c.args.theirs.items ≡ length books =
    tables-length (consumed_books books) c.args.theirs.items c.requires.theirs.0 ∙ wide in
    let rest : c.into_iter-seat-iterator.result.rest.len ≡ length c.args.theirs.items =
    c.into_iter-seat-iterator.result.rest.ok.0 ∙ ap length c.into_iter-seat-iterator.ensures.into_iter_gives.0 in (
      tt,
      tt,
      record {
        slots_same = refl;
        left = sym c.into_iter-seat-iterator.ensures.into_iter_gives.0;
        within = omega arith;
        slots_left = omega (arith, rest, c.requires.slots.0, many);
        seats_left = omega (arith, rest, tables-length (consumed_books books) c.args.seats.now c.requires.seats, wide, many);
        tables = c.requires.seats;
        marks = λ k d lt. sym (raised-from (get_or c.args.seats.now k d).mark 1 0 k (omega arith));
        each = λ k d e lt.
            sym (raised-from (get_or c.args.seats.now k d).amount (get_or c.args.theirs.items k e).amount 0 k (omega arith));
        amounts = omega arith;
      },
    )

pub returns-clause-marks : goal.returns-clause-marks
returns-clause-marks g c = λ k d lt.
    let v = c.loop-seat.invariant.2 in
    let all : length g.N.Names.plan.books ≡ c.loop-seat.i =
    omega (arith, v.slots_left, c.in-None.ensures.steps.0, ap length v.slots_same, c.requires.slots.0) in
    v.marks k d lt ∙ raised-before (get_or c.args.seats.now k d).mark 1 c.loop-seat.i k (omega (arith, lt, all))

pub returns-clause-each : goal.returns-clause-each
returns-clause-each g c = λ k d e lt.
    let v = c.loop-seat.invariant.2 in
    let all : length g.N.Names.plan.books ≡ c.loop-seat.i =
    omega (arith, v.slots_left, c.in-None.ensures.steps.0, ap length v.slots_same, c.requires.slots.0) in
    v.each k d e lt
    ∙ raised-before (get_or c.args.seats.now k d).amount (get_or c.args.theirs.items k e).amount c.loop-seat.i k (omega (arith, lt, all))

pub returns-clause-amounts : goal.returns-clause-amounts
returns-clause-amounts g c =
    let v = c.loop-seat.invariant.2 in
    let theirs = c.args.theirs.items in
    let none : length c.loop-seat.seat-iterator.rest.items ≡ 0 = sym c.loop-seat.seat-iterator.rest.ok.0 ∙ c.in-None.ensures.steps.0 in
    let all : length theirs ≤ c.loop-seat.i = omega (arith, length-drop c.loop-seat.i theirs, ap length v.left, none, v.within) in
    v.amounts ∙ ap (λ (l : List SeatState). sum (amounts_of c.args.seats.now) + sum (amounts_of l)) (take_all c.loop-seat.i theirs all)

pub join_at-requires-clause-there : goal.join_at-requires-clause-there
join_at-requires-clause-there g c = grind (arith, common_steps)
