use Rattle.std.proofs.Common.{◌≡◌, map, take}
use Rattle.std.specs.List.{flat_map}
use Rattle.std.specs.String.{string_bytes}
use Rattle.tr_events.specs.Lines.{names_of}
use Rattle.tr_events.proofs.lines.names_seen.Given as goal

abbrev pub invariant-loop-field : goal.invariant-loop-field
invariant-loop-field l = map string_bytes l.names.items ≡ flat_map names_of (take l.field-index l.fields)
