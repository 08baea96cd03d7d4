use Rattle.tr_terms.proofs.ListLemmas.{mapped-all, mapped-more}
use Rattle.tr_session.proofs.streams.snap_all.Goals as goal
use Rattle.tr_stream.specs.StateSteps.{state_snap}

pub streams-preserved : goal.streams-preserved
streams-preserved g c =
    mapped-more (state_snap c.args.moment) c.args.streams.now c.streams.stream-index c.stream-item.result
    c.in_ok-peek.field-0 c.streams.snaps.items c.push.new.self.items c.streams-test.true c.stream-item.is c.in_ok-peek.ensures.value
    c.streams.invariant c.in_ok-push.ensures.items

pub returns : goal.returns
returns g c = mapped-all (state_snap c.args.moment) c.args.streams.now c.streams.stream-index c.streams.snaps.items
    c.streams-test.false c.streams.invariant
