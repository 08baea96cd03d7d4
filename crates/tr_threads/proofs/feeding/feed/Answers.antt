use Rattle.std.proofs.Common.{rules, arith, Vec, Global, length, vec_len, ◌≡◌}
use Rattle.std.proofs.lemmas.Grind.{common_steps}
use Rattle.tr_threads.specs.declared.feeding.LoggedProducer.{LoggedProducer}
use Rattle.tr_threads.specs.declared.items.Item.{Item}
use Rattle.tr_threads.proofs.FeedLemmas.{all_fed, producers_came}
use Rattle.tr_threads.proofs.feeding.feed.Goals as goal

-- each feeder was made of the producer and the work at its place
pub returns-in-Ok-set_to_work-clause-fed : goal.returns-in-Ok-set_to_work-clause-fed
returns-in-Ok-set_to_work-clause-fed g c = λ i p w b low.
    let Seat = LoggedProducer g.row.T-Seat.Denot in let made = c.in-Ok.ensures in
    let all : length c.args.producers.items ≡ vec_len c.args.producers = search rules in
    all_fed (λ (s : Seat). s.producer) (λ (s : Seat). s.work) (λ (v : Vec Item Global). v.items) (λ (s : Seat). s.log.items) (g.T.Intake.offers c.args.intake.now)
    c.in-Ok.prepared.0.items c.in-Ok-set_to_work.fed.items c.args.producers.items c.args.works.items
    made.producers made.works made.logs c.in-Ok-set_to_work.ensures.worked i p w b (omega (arith, low, all))

-- those of the seats that came back
pub returns-in-Err-set_to_work-clause-came : goal.returns-in-Err-set_to_work-clause-came
returns-in-Err-set_to_work-clause-came g c =
    let Seat = LoggedProducer g.row.T-Seat.Denot in let made = c.in-Ok.ensures in
    producers_came (λ (s : Seat). s.producer) (λ (s : Seat). s.work) (λ (v : Vec Item Global). v.items) (λ (s : Seat). s.log.items) (g.T.Intake.offers c.args.intake.now)
    c.in-Ok.prepared.0.items c.in-Err-set_to_work.field-0.seats.items c.args.producers.items c.given_back.result.items c.args.works.items
    made.producers made.works made.logs c.given_back.ensures c.in-Err-set_to_work.ensures.came

pub returns-in-Err-clause-came : goal.returns-in-Err-clause-came
returns-in-Err-clause-came g c = grind (arith, common_steps)

pub returns-in-Ok-set_to_work-clause-len : goal.returns-in-Ok-set_to_work-clause-len
returns-in-Ok-set_to_work-clause-len g c = grind (arith, common_steps)
