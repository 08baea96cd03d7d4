use Rattle.std.specs.String.{string_bytes}
use Rattle.tr_metadata.specs.Metadata.{class_text}
use Rattle.tr_events.proofs.WritingLemmas.{one_more}
use Rattle.tr_metadata.proofs.classes.push_classes.Goals as goal

pub loop-event-preserved : goal.loop-event-preserved
loop-event-preserved g c =
    one_more class_text c.args.events.now c.loop-event.event-index c.event-item.result (string_bytes c.args.text.now)
    (string_bytes c.loop-event.text) (string_bytes c.push_class.new.text) c.loop-event-test.true c.event-item.is c.loop-event.invariant
    c.in_ok-push_class.ensures
