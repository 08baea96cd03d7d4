use Rattle.std.proofs.Common.{◌≡◌, ◌≢◌, ◌≤◌, ◌<◌, length, arith}
use Rattle.tr_events.proofs.FoundLemmas.{none_next, none_of_all}
use Rattle.tr_events.proofs.ids.bound_of.Goals as goal

pub loop-event-preserved : goal.loop-event-preserved
loop-event-preserved g c id over =
    let lt : c.loop-event.event-index < length c.args.events.now = omega arith in
    let under : c.loop-event.bound ≤ id = omega (arith, c.max-bound.ensures) in
    let ne : c.event-item.result.id ≢ id = omega (arith, c.max-bound.ensures, c.id.ensures) in
    none_next id c.loop-event.event-index c.args.events.now c.event-item.result lt c.event-item.is (c.loop-event.invariant id under) ne

pub returns : goal.returns
returns g c id over =
    let le : length c.args.events.now ≤ c.loop-event.event-index = omega arith in
    none_of_all id c.loop-event.event-index c.args.events.now le (c.loop-event.invariant id over)
