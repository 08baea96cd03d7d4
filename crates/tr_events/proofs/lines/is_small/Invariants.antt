use Rattle.std.proofs.Common.{◌≡◌, drop}
use Rattle.std.specs.Prelude.{nat_le}
use Rattle.tr_events.specs.Lines.{least}
use Rattle.tr_events.specs.declared.layouts.TheConstants.{MOST_PAYLOAD}
use Rattle.tr_events.proofs.lines.is_small.Given as goal

abbrev pub invariant-loop-field : goal.invariant-loop-field
invariant-loop-field l = nat_le (least (drop l.field-index l.fields)) l.left ≡ nat_le (least l.fields) MOST_PAYLOAD
