use Rattle.std.proofs.Common.{rules, arith, Vec, Global, ◌≡◌, ℕ, length, vec_len, subst}
use Rattle.std.proofs.lemmas.Grind.{common_steps}
use Rattle.tr_threads.specs.Pools.{EachCame, IsKeptOr}
use Rattle.tr_threads.specs.Turns.{IsWorked}
use Rattle.tr_threads.specs.declared.feeding.LoggedProducer.{LoggedProducer}
use Rattle.tr_threads.specs.declared.items.Item.{Item}
use Rattle.tr_threads.proofs.FeedLemmas.{all_fed, producers_came}
use Rattle.tr_threads.proofs.together.feed_and_drain.Goals as goal

-- as many workers as seats
pub returns-in-Ok-set_sides_to_work-clause-worked : goal.returns-in-Ok-set_sides_to_work-clause-worked
returns-in-Ok-set_sides_to_work-clause-worked g c =
    let w = c.args.workers in
    subst
    (λ n. EachCame (IsWorked (g.T.Target.takes w.target.now) (g.G.Gate.lets w.gate.now) (g.T.Target.stream_count w.target.now) n)
    w.drainers.items c.in-Ok-set_sides_to_work.back.1.items)
    c.len-2.ensures
    c.in-Ok-set_sides_to_work.ensures.worked.1

-- each feeder was made of the producer and the work at its place
pub returns-in-Ok-set_sides_to_work-clause-fed : goal.returns-in-Ok-set_sides_to_work-clause-fed
returns-in-Ok-set_sides_to_work-clause-fed g c = λ i p w b low.
    let Seat = LoggedProducer g.row.I-Seat.Denot in let made = c.in-Ok.ensures in let f = c.args.feeders in
    let all : length f.producers.items ≡ vec_len f.producers = search rules in
    all_fed (λ (s : Seat). s.producer) (λ (s : Seat). s.work) (λ (v : Vec Item Global). v.items) (λ (s : Seat). s.log.items) (g.I.Intake.offers f.intake.now)
    c.in-Ok.prepared.0.items c.in-Ok-set_sides_to_work.back.0.items f.producers.items f.works.items
    made.producers made.works made.logs c.in-Ok-set_sides_to_work.ensures.worked.0 i p w b (omega (arith, low, all))

-- as many workers as seats, each as it was or with its turns made
pub returns-in-Err-set_sides_to_work-clause-drainers : goal.returns-in-Err-set_sides_to_work-clause-drainers
returns-in-Err-set_sides_to_work-clause-drainers g c =
    let w = c.args.workers in
    subst
    (λ n. EachCame (λ (i : ℕ). IsKeptOr (IsWorked (g.T.Target.takes w.target.now) (g.G.Gate.lets w.gate.now) (g.T.Target.stream_count w.target.now) n i))
    w.drainers.items c.in-Err-set_sides_to_work.field-0.drainers.items)
    c.len-2.ensures
    c.in-Err-set_sides_to_work.ensures.came.1

-- those of the seats that came back
pub returns-in-Err-set_sides_to_work-clause-producers : goal.returns-in-Err-set_sides_to_work-clause-producers
returns-in-Err-set_sides_to_work-clause-producers g c =
    let Seat = LoggedProducer g.row.I-Seat.Denot in let made = c.in-Ok.ensures in let f = c.args.feeders in
    producers_came (λ (s : Seat). s.producer) (λ (s : Seat). s.work) (λ (v : Vec Item Global). v.items) (λ (s : Seat). s.log.items) (g.I.Intake.offers f.intake.now)
    c.in-Ok.prepared.0.items c.in-Err-set_sides_to_work.field-0.producers.items f.producers.items c.given_back.result.items f.works.items
    made.producers made.works made.logs c.given_back.ensures c.in-Err-set_sides_to_work.ensures.came.0

pub returns-in-Err-clause-producers : goal.returns-in-Err-clause-producers
returns-in-Err-clause-producers g c = grind (arith, common_steps)

pub returns-in-Err-clause-drainers : goal.returns-in-Err-clause-drainers
returns-in-Err-clause-drainers g c = grind (arith, common_steps)

pub returns-in-Ok-set_sides_to_work-clause-len : goal.returns-in-Ok-set_sides_to_work-clause-len
returns-in-Ok-set_sides_to_work-clause-len g c = grind (arith, common_steps)

pub returns-in-Err-set_sides_to_work-clause-memory : goal.returns-in-Err-set_sides_to_work-clause-memory
returns-in-Err-set_sides_to_work-clause-memory g c = grind (arith, common_steps)
