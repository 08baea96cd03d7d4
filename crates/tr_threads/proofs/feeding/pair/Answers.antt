use Rattle.std.proofs.Common.{rules, ◌≡◌, ◌++◌, [], map, reverse, ap, sym, ◌∙◌, subst, arith}
use Rattle.std.proofs.lemmas.Grind.{common_steps}
use Rattle.std.specs.List.{AllByRecursion}
use Rattle.tr_threads.specs.declared.feeding.LoggedProducer.{LoggedProducer}
use Rattle.tr_threads.proofs.FeedLemmas.{all_reverse, empty_of, reverse-map}
use Rattle.tr_threads.proofs.feeding.pair.Goals as goal

-- none are left, and the seats are turned round
pub returns-clause-producers : goal.returns-clause-producers
returns-clause-producers g c =
    let Seat = LoggedProducer g.row.S.Denot in let seats = c.pairs.seats.items in
    let none : c.pairs.producers.items ≡ [] = empty_of c.pairs.producers.items (search rules) in
    ap (map (λ (s : Seat). s.producer)) c.reverse.ensures.items ∙ reverse-map (λ (s : Seat). s.producer) seats
    ∙ sym (c.pairs.invariant.4 ∙ ap (λ xs. xs ++ reverse (map (λ (s : Seat). s.producer) seats)) none)

pub returns-clause-works : goal.returns-clause-works
returns-clause-works g c =
    let Seat = LoggedProducer g.row.S.Denot in let seats = c.pairs.seats.items in
    let none : c.pairs.works.items ≡ [] = empty_of c.pairs.works.items (search rules) in
    ap (map (λ (s : Seat). s.work)) c.reverse.ensures.items ∙ reverse-map (λ (s : Seat). s.work) seats
    ∙ sym (c.pairs.invariant.5 ∙ ap (λ xs. xs ++ reverse (map (λ (s : Seat). s.work) seats)) none)

pub returns-clause-logs : goal.returns-clause-logs
returns-clause-logs g c =
    let Seat = LoggedProducer g.row.S.Denot in
    subst (λ xs. AllByRecursion (λ (s : Seat). s.log.items ≡ []) xs) (sym c.reverse.ensures.items)
    (all_reverse (λ (s : Seat). s.log.items ≡ []) c.pairs.seats.items c.pairs.invariant.6)

pub returns-in_default-with_capacity-clause-back : goal.returns-in_default-with_capacity-clause-back
returns-in_default-with_capacity-clause-back g c = grind (arith, common_steps)

pub pairs-preserved : goal.pairs-preserved
pairs-preserved g c = grind (arith, common_steps)
