use Rattle.std.proofs.Common.{arith}
use Rattle.tr_metadata.proofs.RangeLemmas.{ranges_more, ranges_done}
use Rattle.tr_metadata.specs.Reader.{ranges_from}
use Rattle.tr_metadata.proofs.classes.ranges_of.Goals as goal

pub loop-event-preserved : goal.loop-event-preserved
loop-event-preserved g c =
    ranges_more c.args.events.now c.loop-event.event-index c.event-item.result c.id-id.result c.loop-event.from c.loop-event.ranges.items
    c.add_gap.new.ranges.items c.push.new.self.items (ranges_from 0 c.args.events.now) c.loop-event-test.true c.event-item.is
    c.id-id.ensures c.loop-event.invariant c.in_ok-add_gap.ensures c.in_ok-push.ensures.items

pub returns : goal.returns
returns g c =
    ranges_done c.args.events.now c.loop-event.event-index c.loop-event.from c.loop-event.ranges.items c.add_gap-2.new.ranges.items
    (ranges_from 0 c.args.events.now) (omega arith) c.loop-event.invariant c.in_ok-add_gap-2.ensures
