use Rattle.std.proofs.Common.{rules, ◌≡◌, List, ◌∷◌, length, subst}
use Rattle.tr_lends.proofs.PoolLemmas.{lent-pool}
use Rattle.tr_lends.proofs.free.FreeProducers.lend.Goals as goal
use Rattle.tr_lends.specs.Free.{IsPool, free_state}
use Rattle.tr_seats.specs.Slots.{ProducerState}

-- src/free.rt:35:5
pub invariant_of-self-2 : goal.invariant_of-self-2
invariant_of-self-2 g c =
    let n = length g.N.Names.plan.books in
    let first : c.self.inside.free.items ≡ c.in_ok-producer.producer ∷ c.pop_front.new.self.items = search rules in (
      lent-pool n c.in_ok-producer.producer c.pop_front.new.self.items c.self.inside.away
          (subst (λ (ps : List ProducerState). IsPool n (free_state ps c.self.inside.away)) first c.self.invariant.0),
      search rules,
      search rules,
      search rules,
    )

-- src/free.rt:35:5
pub returns-clause-pool : goal.returns-clause-pool
returns-clause-pool g c = (invariant_of-self-2 g c).0
