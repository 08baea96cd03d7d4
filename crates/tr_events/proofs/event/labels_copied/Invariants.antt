use Rattle.std.proofs.Common.{◌≡◌, take}
use Rattle.tr_events.proofs.event.labels_copied.Given as goal

abbrev pub invariant-loop-label : goal.invariant-loop-label
invariant-loop-label g l = l.copies.items ≡ take l.label-index l.labels
