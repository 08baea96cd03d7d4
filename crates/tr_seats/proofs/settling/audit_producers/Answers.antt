use Rattle.std.proofs.Common.{◌≡◌, ◌<◌, ap, arith, below_more, get_or, length, refl, subst, sym, ◌∙◌}
use Rattle.std.proofs.lemmas.List.{get_or_default}
use Rattle.tr_seats.proofs.Joins.{put-back, read-same}
use Rattle.tr_seats.proofs.settling.audit_producers.Goals as goal
use Rattle.tr_seats.specs.Accounts.{IsAccountOf}
use Rattle.tr_seats.specs.Settling.{AreInPlace}
use Rattle.tr_seats.specs.Slots.{IsOwn, ProducerState, SlotState}
use Rattle.tr_seats.specs.Sums.{totals_in}

pub audit-requires : goal.audit-requires
audit-requires g c =
    let v = c.loop-k.invariant in
    let k = c.loop-k.k in
    let i = c.stream-i.result in
    let long : k < length c.loop-k.producers = omega (arith, c.loop-k-test.true, ap length v.producers_same) in
    let there : i < length c.loop-k.slots = omega (arith, c.stream-i.ensures.there, ap length v.slots_same, c.requires.0) in
    ap (λ (p : ProducerState). p.number)
    (get_or_default c.loop-k.producers k c.index-producers-k-in-loop-k.result c.index-producers-k.result long)
    ∙ sym c.stream-i.ensures.number ∙ sym (subst AreInPlace (sym v.slots_same) c.requires.1 i c.index-slots-i.result there)

pub loop-k-init : goal.loop-k-init
loop-k-init g c = record {
  slots_same = refl;
  producers_same = refl;
  there = λ j p lt. absurd (omega (arith, lt));
  own = λ j p s lt. absurd (omega (arith, lt));
  accounts = λ j p s lt. absurd (omega (arith, lt));
}

pub loop-k-preserved : goal.loop-k-preserved
loop-k-preserved g c =
    let books = g.N.Names.plan.books in
    let v = c.loop-k.invariant in
    let k = c.loop-k.k in
    let i = c.stream-i.result in
    let slots = c.args.slots.now in
    let producers = c.args.producers.now in
    let long : k < length producers = omega (arith, c.loop-k-test.true, ap length v.producers_same) in
    let there : i < length slots = omega (arith, c.stream-i.ensures.there, c.requires.0) in
    let number : (p : ProducerState) → i ≡ (get_or producers k p).number = λ p.
    c.stream-i.ensures.number
    ∙ ap (λ (p : ProducerState). p.number)
    (read-same c.loop-k.producers producers k c.index-producers-k.result p v.producers_same long) in
    record {
      slots_same = put-back c.loop-k.slots i c.audit.new.self c.index-slots-i.result c.audit.ensures.same.0 ∙ v.slots_same;
      producers_same = put-back c.loop-k.producers k c.audit.new.producer c.index-producers-k-in-loop-k.result c.audit.ensures.same.1
          ∙ v.producers_same;
      there = λ j p.
          below_more (λ j. (get_or producers j p).number < length books) k (λ j lt. v.there j p lt)
          (subst (λ n. n < length books) (number p) c.stream-i.ensures.there) j;
      own = λ j p s.
          below_more (λ j. IsOwn (get_or producers j p) (totals_in (get_or slots (get_or producers j p).number s).stream)) k
          (λ j lt. v.own j p s lt)
          (let producer = read-same c.loop-k.producers producers k c.index-producers-k-in-loop-k.result p v.producers_same long in
          let slot = read-same c.loop-k.slots slots i c.index-slots-i.result s v.slots_same there ∙ ap (λ n. get_or slots n s) (number p) in
          subst (λ (x : ProducerState × SlotState). IsOwn x.0 (totals_in x.1.stream)) (λ q. (producer q, slot q)) c.audit.ensures.own)
          j;
      accounts = λ j p s.
          below_more (λ j. IsAccountOf (get_or producers j p).steps (get_or slots (get_or producers j p).number s).stream) k
          (λ j lt. v.accounts j p s lt)
          (let producer = read-same c.loop-k.producers producers k c.index-producers-k-in-loop-k.result p v.producers_same long in
          let slot = read-same c.loop-k.slots slots i c.index-slots-i.result s v.slots_same there ∙ ap (λ n. get_or slots n s) (number p) in
          subst (λ (x : ProducerState × SlotState). IsAccountOf x.0.steps x.1.stream) (λ q. (producer q, slot q)) c.audit.ensures.accounts)
          j;
    }

pub returns-clause-there : goal.returns-clause-there
returns-clause-there g c = λ k p lt. c.loop-k.invariant.there k p (omega (arith, lt, c.loop-k-test.false))

pub returns-clause-own : goal.returns-clause-own
returns-clause-own g c = λ k p s lt. c.loop-k.invariant.own k p s (omega (arith, lt, c.loop-k-test.false))

pub returns-clause-accounts : goal.returns-clause-accounts
returns-clause-accounts g c = λ k p s lt. c.loop-k.invariant.accounts k p s (omega (arith, lt, c.loop-k-test.false))
