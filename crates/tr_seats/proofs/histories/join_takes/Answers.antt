use Rattle.std.proofs.Common.{◌≡◌, ◌∙◌, ◌+◌, ◌<◌, ◌≤◌, ap, arith, below_more, get_or, get_or-set_other, get_or-set_same, le_refl, length, refl, set, subst, sym}
use Rattle.std.proofs.lemmas.List.{get_or_default, length-drop, length-set}
use Rattle.std.proofs.lemmas.Option.{get_or_from_slice_get}
use Rattle.tr_accounts.specs.declared.step.StreamStep.{StreamStep}
use Rattle.tr_journal.specs.Journals.{SeatState, seat_with}
use Rattle.tr_seats.proofs.Rows.{drop-front}
use Rattle.tr_seats.proofs.histories.join_takes.Goals as goal
use Rattle.tr_seats.specs.Books.{books_at}
use Rattle.tr_seats.specs.Settling.{AreInPlace}

pub loop-seat-init : goal.loop-seat-init
loop-seat-init g c =
    let rest : c.into_iter-seat-iterator.result.rest.len ≡ length c.args.theirs.items =
    c.into_iter-seat-iterator.result.rest.ok.0 ∙ ap length c.into_iter-seat-iterator.ensures.into_iter_gives.0 in (
      tt,
      tt,
      record {
        slots_same = refl;
        left = sym c.into_iter-seat-iterator.ensures.into_iter_gives.0;
        within = omega arith;
        slots_left = omega (arith, rest, c.requires.slots.0, c.requires.theirs.many);
        desk_left = omega (arith, rest, c.requires.many, c.requires.theirs.many);
        joined = λ k d e lt. absurd (omega (arith, lt));
        apart = λ k d le. refl;
      },
    )

pub join_takes_at-requires-clause-there : goal.join_takes_at-requires-clause-there
join_takes_at-requires-clause-there g c =
    let v = c.loop-seat.invariant.2 in
    let rest : c.loop-seat.seat-iterator.rest.len ≡ c.next.new.self.rest.len + 1 =
    omega (arith, c.loop-seat.seat-iterator.rest.ok.0, c.next.new.self.rest.ok.0, ap length c.in-Some.ensures.steps.0) in
    (omega (arith, rest, v.slots_left), omega (arith, rest, v.desk_left))

pub join_takes_at-requires-clause-desk : goal.join_takes_at-requires-clause-desk
join_takes_at-requires-clause-desk g c = λ d s.
    let books = g.N.Names.plan.books in
    let v = c.loop-seat.invariant.2 in
    let i = c.loop-seat.i in
    let theirs = c.args.theirs.items in
    let front = drop-front theirs i c.in-Some.seat c.next.new.self.rest.items (v.left ∙ c.in-Some.ensures.steps.0) in
    let below : i < length books = omega (arith, front.2, c.requires.theirs.many) in
    let within : i < length c.loop-seat.slots = omega (arith, below, ap length v.slots_same, c.requires.slots.0) in
    let number : (get_or c.loop-seat.slots i s).number ≡ i = subst AreInPlace (sym v.slots_same) c.requires.slots.1 i s within in
    ap (λ (x : SeatState StreamStep). x.table) (v.apart i d (le_refl i)) ∙ c.requires.desk i d below
    ∙ ap (λ n. (books_at books n).journal) (sym number)

pub join_takes_at-requires-clause-other : goal.join_takes_at-requires-clause-other
join_takes_at-requires-clause-other g c = λ s.
    let books = g.N.Names.plan.books in
    let v = c.loop-seat.invariant.2 in
    let i = c.loop-seat.i in
    let x = c.in-Some.seat in
    let theirs = c.args.theirs.items in
    let front = drop-front theirs i x c.next.new.self.rest.items (v.left ∙ c.in-Some.ensures.steps.0) in
    let below : i < length books = omega (arith, front.2, c.requires.theirs.many) in
    let within : i < length c.loop-seat.slots = omega (arith, below, ap length v.slots_same, c.requires.slots.0) in
    let number : (get_or c.loop-seat.slots i s).number ≡ i = subst AreInPlace (sym v.slots_same) c.requires.slots.1 i s within in
    ap (λ (y : SeatState StreamStep). y.table) (sym (get_or_from_slice_get theirs i x x front.0)) ∙ (c.requires.theirs.each i x below).0
    ∙ ap (λ n. (books_at books n).journal) (sym number)

pub loop-seat-preserved : goal.loop-seat-preserved
loop-seat-preserved g c =
    let v = c.loop-seat.invariant.2 in
    let i = c.loop-seat.i in
    let x = c.in-Some.seat in
    let desk = c.loop-seat.desk in
    let first = c.args.desk.now in
    let theirs = c.args.theirs.items in
    let new = seat_with x (get_or desk i x) in
    let is : c.join_takes_at.new.desk ≡ set desk i new = c.join_takes_at.ensures.desk x in
    let front = drop-front theirs i x c.next.new.self.rest.items (v.left ∙ c.in-Some.ensures.steps.0) in
    let rest : c.loop-seat.seat-iterator.rest.len ≡ c.next.new.self.rest.len + 1 =
    omega (arith, c.loop-seat.seat-iterator.rest.ok.0, c.next.new.self.rest.ok.0, ap length c.in-Some.ensures.steps.0) in
    let long : i < length desk = omega (arith, v.desk_left, rest) in
    let slots_same = c.join_takes_at.ensures.slots ∙ v.slots_same in (
      tt,
      tt,
      record {
        slots_same = slots_same;
        left = front.1;
        within = front.2;
        slots_left = omega (arith, rest, v.slots_left, ap length slots_same, ap length v.slots_same);
        desk_left = omega (arith, rest, v.desk_left, ap length is, length-set desk i new);
        joined = λ k d e.
            below_more (λ k. get_or c.join_takes_at.new.desk k d ≡ seat_with (get_or theirs k e) (get_or first k d)) i
            (λ k lt. ap (λ l. get_or l k d) is ∙ get_or-set_other desk i k new d (λ same. omega (arith, same, lt)) ∙ v.joined k d e lt)
            (let was : get_or desk i x ≡ get_or first i d = get_or_default desk i x d long ∙ v.apart i d (le_refl i) in
            ap (λ l. get_or l i d) is ∙ get_or-set_same desk i new d long
            ∙ (λ j. seat_with (sym (get_or_from_slice_get theirs i x e front.0) j) (was j)))
            k;
        apart = λ k d le.
            ap (λ l. get_or l k d) is ∙ get_or-set_other desk i k new d (λ same. omega (arith, same, le))
            ∙ v.apart k d (omega (arith, le));
      },
    )

pub returns-clause-joined : goal.returns-clause-joined
returns-clause-joined g c = λ k d e lt.
    let v = c.loop-seat.invariant.2 in
    let theirs = c.args.theirs.items in
    let none : length c.loop-seat.seat-iterator.rest.items ≡ 0 = sym c.loop-seat.seat-iterator.rest.ok.0 ∙ c.in-None.ensures.steps.0 in
    let all : length theirs ≤ c.loop-seat.i = omega (arith, length-drop c.loop-seat.i theirs, ap length v.left, none, v.within) in
    v.joined k d e (omega (arith, lt, all, c.requires.theirs.many))

pub returns-clause-many : goal.returns-clause-many
returns-clause-many g c =
    let v = c.loop-seat.invariant.2 in
    omega (arith, v.desk_left, v.slots_left, ap length v.slots_same, c.requires.slots.0, c.requires.many)
