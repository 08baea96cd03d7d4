use Rattle.std.proofs.Common.{◌≡◌, ◌∙◌, ◌+◌, ◌<◌, ◌≤◌, List, [], ◌∷◌, ◌++◌, ap, arith, below_more, drop, get_or, get_or-set_other, length, refl, subst, sym}
use Rattle.std.proofs.lemmas.List.{get_or_default, length-drop, length-set, length_push}
use Rattle.std.proofs.lemmas.Option.{get_or_from_slice_get}
use Rattle.tr_accounts.specs.declared.step.StreamStep.{StreamStep}
use Rattle.tr_journal.specs.Journals.{SeatState}
use Rattle.tr_seats.proofs.HistoryLemmas.{producers-apart}
use Rattle.tr_seats.proofs.Joins.{put-back, read-same}
use Rattle.tr_seats.proofs.Rows.{drop-front}
use Rattle.tr_seats.proofs.histories.join_producers.Goals as goal
use Rattle.tr_seats.specs.Books.{books_at}
use Rattle.tr_seats.specs.Histories.{IsDeskWith, IsHistoryOf, takes_joined}
use Rattle.tr_seats.specs.Settling.{AreInPlace}
use Rattle.tr_seats.specs.Slots.{ProducerState, SlotState}

pub loop-producer-init : goal.loop-producer-init
loop-producer-init g c = (
  tt,
  tt,
  record {
    slots_same = refl;
    left = sym c.into_iter-producer-iterator.ensures.into_iter_gives.0;
    within = omega arith;
    many = refl;
    apart = λ i d others. refl;
    histories = λ k p d s lt. absurd (omega (arith, lt));
  },
)

pub join_producer-requires-clause-here : goal.join_producer-requires-clause-here
join_producer-requires-clause-here g c =
    let v = c.loop-producer.invariant.2 in
    let i = c.stream-i.result in
    let s = c.index-slots-i.result in
    let within : i < length c.loop-producer.slots = omega (arith, c.stream-i.ensures.there, ap length v.slots_same, c.requires.slots.0) in
    sym c.stream-i.ensures.number ∙ sym (subst AreInPlace (sym v.slots_same) c.requires.slots.1 i s within)

pub join_producer-requires-clause-desk : goal.join_producer-requires-clause-desk
join_producer-requires-clause-desk g c =
    let books = g.N.Names.plan.books in
    let v = c.loop-producer.invariant.2 in
    let i = c.stream-i.result in
    let d = c.index-desk-i.result in
    let s = c.index-slots-i.result in
    let x = c.in-Some.producer in
    let producers = c.args.producers.items in
    let n = length c.loop-producer.yielded in
    let front = drop-front producers n x c.next.new.self.rest.items (v.left ∙ c.in-Some.ensures.steps.0) in
    let there : get_or producers n x ≡ x = get_or_from_slice_get producers n x x front.0 in
    let number : (get_or producers n x).number ≡ i = ap (λ (p : ProducerState). p.number) there ∙ sym c.stream-i.ensures.number in
    let below = c.stream-i.ensures.there in
    let in_slots : (get_or producers n x).number < length c.args.slots.now = omega (arith, number, below, c.requires.slots.0) in
    let same : get_or c.loop-producer.desk i d ≡ get_or c.args.desk.now i d = v.apart i d
    (λ j p lt. λ e. producers-apart (length c.args.slots.now) producers c.requires.once j n p x lt (omega (arith, front.2)) in_slots (e ∙ sym number)) in
    let within : i < length c.loop-producer.slots = omega (arith, below, ap length v.slots_same, c.requires.slots.0) in
    let place : (get_or c.loop-producer.slots i s).number ≡ i = subst AreInPlace (sym v.slots_same) c.requires.slots.1 i s within in
    subst (λ m. IsDeskWith (books_at books m).journal (get_or c.loop-producer.desk i d)) (sym place)
    (subst (IsDeskWith (books_at books i).journal) (sym same) (c.requires.desk i d below))

pub join_producer-requires-clause-all : goal.join_producer-requires-clause-all
join_producer-requires-clause-all g c =
    let v = c.loop-producer.invariant.2 in
    let i = c.stream-i.result in
    let d = c.index-desk-i.result in
    let s = c.index-slots-i.result in
    let x = c.in-Some.producer in
    let producers = c.args.producers.items in
    let n = length c.loop-producer.yielded in
    let front = drop-front producers n x c.next.new.self.rest.items (v.left ∙ c.in-Some.ensures.steps.0) in
    let there : get_or producers n x ≡ x = get_or_from_slice_get producers n x x front.0 in
    let number : (get_or producers n x).number ≡ i = ap (λ (p : ProducerState). p.number) there ∙ sym c.stream-i.ensures.number in
    let below = c.stream-i.ensures.there in
    let in_slots : (get_or producers n x).number < length c.args.slots.now = omega (arith, number, below, c.requires.slots.0) in
    let same : get_or c.loop-producer.desk i d ≡ get_or c.args.desk.now i d = v.apart i d
    (λ j p lt. λ e. producers-apart (length c.args.slots.now) producers c.requires.once j n p x lt (omega (arith, front.2)) in_slots (e ∙ sym number)) in
    ap (λ (y : SeatState StreamStep). length y.joined) same ∙ c.requires.all i d s below
    ∙ ap (λ (l : List SlotState). (get_or l i s).made) (sym v.slots_same)

pub loop-producer-preserved : goal.loop-producer-preserved
loop-producer-preserved g c =
    let v = c.loop-producer.invariant.2 in
    let i = c.stream-i.result in
    let read = c.index-desk-i.result in
    let x = c.in-Some.producer in
    let producers = c.args.producers.items in
    let slots = c.args.slots.now in
    let first = c.args.desk.now in
    let desk = c.loop-producer.desk in
    let n = length c.loop-producer.yielded in
    let front = drop-front producers n x c.next.new.self.rest.items (v.left ∙ c.in-Some.ensures.steps.0) in
    let next : length (c.loop-producer.yielded ++ x ∷ []) ≡ n + 1 = length_push c.loop-producer.yielded x in
    let there : (p : ProducerState) → get_or producers n p ≡ x = λ p. get_or_from_slice_get producers n x p front.0 in
    let number : (p : ProducerState) → (get_or producers n p).number ≡ i =
    λ p. ap (λ (q : ProducerState). q.number) (there p) ∙ sym c.stream-i.ensures.number in
    let below = c.stream-i.ensures.there in
    let in_slots : (get_or producers n x).number < length slots = omega (arith, number x, below, c.requires.slots.0) in
    let same : get_or desk i read ≡ get_or first i read = v.apart i read
    (λ j p lt. λ e. producers-apart (length slots) producers c.requires.once j n p x lt (omega (arith, front.2)) in_slots (e ∙ sym (number x))) in
    let new = c.join_producer.new.desk in (
      tt,
      tt,
      record {
        slots_same = put-back c.loop-producer.slots i c.join_producer.new.self c.index-slots-i.result c.join_producer.ensures.slot ∙ v.slots_same;
        left = ap (λ m. drop m producers) next ∙ front.1;
        within = subst (λ m. m ≤ length producers) (sym next) front.2;
        many = length-set desk i new ∙ v.many;
        apart = λ k d others.
            get_or-set_other desk i k new d (λ e. others n x (omega (arith, next)) (number x ∙ sym e))
            ∙ v.apart k d (λ j p lt. others j p (omega (arith, next, lt)));
        histories = λ k p d s lt.
            below_more (λ k. IsHistoryOf (get_or producers k p).steps (takes_joined (get_or first (get_or producers k p).number d))
            (get_or first (get_or producers k p).number d).own
            (get_or slots (get_or producers k p).number s).stream) n
            (λ k lt. v.histories k p d s lt)
            (let wide : i < length first = omega (arith, below, c.requires.many) in
            let long : i < length slots = omega (arith, below, c.requires.slots.0) in
            let seat : get_or desk i read ≡ get_or first (get_or producers n p).number d =
            same ∙ get_or_default first i read d wide ∙ ap (λ m. get_or first m d) (sym (number p)) in
            let slot : get_or c.loop-producer.slots i c.index-slots-i.result ≡ get_or slots (get_or producers n p).number s =
            read-same c.loop-producer.slots slots i c.index-slots-i.result s v.slots_same long ∙ ap (λ m. get_or slots m s) (sym (number p)) in
            subst (λ (y : ProducerState × SeatState StreamStep × SlotState). IsHistoryOf y.0.steps (takes_joined y.1) y.1.own y.2.stream)
            (λ j. (sym (there p) j, seat j, slot j)) c.join_producer.ensures.history)
            k (subst (λ m. k < m) next lt);
      },
    )

pub returns-clause-histories : goal.returns-clause-histories
returns-clause-histories g c = λ k p d s lt.
    let v = c.loop-producer.invariant.2 in
    let producers = c.args.producers.items in
    let n = length c.loop-producer.yielded in
    let none : length c.loop-producer.producer-iterator.rest.items ≡ 0 =
    sym c.loop-producer.producer-iterator.rest.ok.0 ∙ c.in-None.ensures.steps.0 in
    let all : n ≡ length producers = omega (arith, length-drop n producers, ap length v.left, none, v.within) in
    v.histories k p d s (subst (λ m. k < m) (sym all) lt)
