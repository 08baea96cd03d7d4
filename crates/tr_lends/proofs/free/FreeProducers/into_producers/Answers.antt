use Rattle.std.proofs.Common.{rules, ◌≡◌, ◌<◌, ◌+◌, List, length, subst, sym, arith, ap, ◌∙◌}
use Rattle.std.proofs.lemmas.List.{length-append}
use Rattle.std.specs.Prelude.{count_by, ◌==◌}
use Rattle.tr_lends.proofs.PoolLemmas.{one-each}
use Rattle.tr_lends.proofs.free.FreeProducers.into_producers.Goals as goal
use Rattle.tr_lends.specs.Free.{IsPool, free_state}
use Rattle.tr_seats.specs.Slots.{ProducerState}

-- src/free.rt:93:13
pub push_reserved-requires : goal.push_reserved-requires
push_reserved-requires g c =
    let l = c.loop-producer in
    let some : 0 < length l.free.items = search rules in
    let all : length l.room.items + length l.free.items ≡ length c.self.inside.free.items =
    sym (length-append l.room.items l.free.items) ∙ ap (λ (ps : List ProducerState). length ps) l.invariant.0 in
    omega (arith, some, all, l.invariant.1, c.self.invariant.0.all, c.self.invariant.3)

-- src/free.rt:81:5
pub returns-clause-one_each : goal.returns-clause-one_each
returns-clause-one_each g c = λ i lt.
    let n = length g.N.Names.plan.books in let ps = c.self.inside.free.items in
    let nobody : c.self.inside.away ≡ 0 = search rules in
    let pool : IsPool n (free_state ps 0) = subst (λ k. IsPool n (free_state ps k)) nobody c.self.invariant.0 in
    let same : c.loop-producer.room.items ≡ ps = search rules in
    subst (λ (qs : List ProducerState). count_by (λ (p : ProducerState). p.number == i) qs ≡ 1) (sym same) (one-each n ps pool i lt)
