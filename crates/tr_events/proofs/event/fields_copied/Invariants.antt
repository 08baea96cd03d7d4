use Rattle.std.proofs.Common.{◌≡◌, take}
use Rattle.tr_events.proofs.event.fields_copied.Given as goal

abbrev pub invariant-loop-field : goal.invariant-loop-field
invariant-loop-field g l = l.copies.items ≡ take l.field-index l.fields
