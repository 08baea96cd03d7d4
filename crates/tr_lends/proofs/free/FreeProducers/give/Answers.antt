use Rattle.std.proofs.Common.{rules, ◌≡◌, ◌<◌, ◌-◌, List, [], ◌∷◌, ◌++◌, length, subst, sym}
use Rattle.std.specs.Prelude.{count_by, ◌==◌}
use Rattle.tr_lends.proofs.PoolLemmas.{given-pool}
use Rattle.tr_lends.proofs.free.FreeProducers.give.Goals as goal
use Rattle.tr_lends.specs.Free.{IsPool, free_state}
use Rattle.tr_seats.specs.Slots.{ProducerState}

-- src/free.rt:52:5
pub invariant_of-self-2 : goal.invariant_of-self-2
invariant_of-self-2 g c =
    let n = length g.N.Names.plan.books in
    let ps = c.self.inside.free.items in let p = c.args.producer in
    let last : c.try_push_back.new.self.items ≡ ps ++ p ∷ [] = search rules in
    let some : 0 < c.self.inside.away = search rules in
    let below : p.number < n = search rules in
    let none : count_by (λ (q : ProducerState). q.number == p.number) ps ≡ 0 = search rules in (
      subst (λ (qs : List ProducerState). IsPool n (free_state qs (c.self.inside.away - 1))) (sym last)
          (given-pool n p ps c.self.inside.away c.self.invariant.0 some below none),
      search rules,
      search rules,
      search rules,
    )

-- src/free.rt:52:5
pub returns-clause-pool : goal.returns-clause-pool
returns-clause-pool g c = (invariant_of-self-2 g c).0
