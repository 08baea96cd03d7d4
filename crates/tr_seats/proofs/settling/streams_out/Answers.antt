use Rattle.std.proofs.Common.{◌≡◌, ◌+◌, ◌≤◌, length, take, drop, [], ◌∷◌, ◌++◌, ap, ◌∙◌, subst, sym, arith}
use Rattle.std.proofs.lemmas.List.{length-drop, length_push, nil_from_length, take_all}
use Rattle.std.proofs.lemmas.Option.{get_or_from_slice_get}
use Rattle.std.specs.List.{AllByRecursion}
use Rattle.tr_record.proofs.RecordLemmas.{all_push}
use Rattle.tr_seats.proofs.Rows.{drop-front}
use Rattle.tr_seats.proofs.SumLemmas.{streams-more}
use Rattle.tr_seats.proofs.settling.streams_out.Goals as goal
use Rattle.tr_seats.specs.Settling.{streams_of}
use Rattle.tr_session.specs.Sizes.{HoldsItsParts}

pub loop-slot-init : goal.loop-slot-init
loop-slot-init g c =
    let none = nil_from_length c.args.room.items (sym c.args.room.ok.0 ∙ c.requires.0) in (
      tt,
      tt,
      record {
        left = sym c.into_iter-slot-iterator.ensures.into_iter_gives.0;
        within = omega arith;
        held = subst (AllByRecursion HoldsItsParts) (sym none) tt;
        out = none;
        len = c.requires.0;
        space = c.requires.1;
      },
    )

pub push_reserved-requires : goal.push_reserved-requires
push_reserved-requires g c =
    let v = c.loop-slot.invariant.2 in
    let slots = c.args.slots.items in
    let front = drop-front slots (length c.loop-slot.yielded) c.in-Some.slot c.next.new.self.rest.items (v.left ∙ c.in-Some.ensures.steps.0) in
    omega (arith, front.2, v.len, v.space)

pub loop-slot-preserved : goal.loop-slot-preserved
loop-slot-preserved g c =
    let v = c.loop-slot.invariant.2 in
    let slots = c.args.slots.items in
    let i = length c.loop-slot.yielded in
    let x = c.in-Some.slot in
    let front = drop-front slots i x c.next.new.self.rest.items (v.left ∙ c.in-Some.ensures.steps.0) in
    let next : length (c.loop-slot.yielded ++ x ∷ []) ≡ i + 1 = length_push c.loop-slot.yielded x in
    let more = streams-more slots i x (omega (arith, front.2)) (sym (get_or_from_slice_get slots i x x front.0)) in
    let out : c.push_reserved.new.self.items ≡ streams_of (take (i + 1) slots) =
    c.push_reserved.ensures.items ∙ (λ k. v.out k ++ c.into_stream.ensures.value k ∷ []) ∙ sym more in (
      tt,
      tt,
      record {
        left = ap (λ n. drop n slots) next ∙ front.1;
        within = subst (λ n. n ≤ length slots) (sym next) front.2;
        held = subst (AllByRecursion HoldsItsParts) (sym c.push_reserved.ensures.items)
            (all_push HoldsItsParts c.loop-slot.room.items c.into_stream.result v.held
            (subst HoldsItsParts (sym c.into_stream.ensures.value) c.into_stream.ensures.held));
        out = out ∙ ap (λ n. streams_of (take n slots)) (sym next);
        len = c.push_reserved.ensures.len ∙ ap (λ n. n + 1) v.len ∙ sym next;
        space = subst (λ n. length slots ≤ n) (sym c.push_reserved.ensures.capacity) v.space;
      },
    )

pub returns-clause-streams : goal.returns-clause-streams
returns-clause-streams g c =
    let v = c.loop-slot.invariant.2 in
    let slots = c.args.slots.items in
    let i = length c.loop-slot.yielded in
    let none : length c.loop-slot.slot-iterator.rest.items ≡ 0 = sym c.loop-slot.slot-iterator.rest.ok.0 ∙ c.in-None.ensures.steps.0 in
    let all : length slots ≤ i = omega (arith, length-drop i slots, ap length v.left, none, v.within) in
    v.out ∙ ap streams_of (take_all i slots all)
