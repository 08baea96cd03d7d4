use Rattle.std.proofs.Common.{◌≡◌, ◌++◌, take}
use Rattle.std.specs.List.{flat_map}
use Rattle.std.specs.String.{string_bytes}
use Rattle.tr_metadata.specs.Metadata.{class_text}
use Rattle.tr_metadata.proofs.classes.push_classes.Given as goal

abbrev pub invariant-loop-event : goal.invariant-loop-event
invariant-loop-event g l = string_bytes l.text ≡ string_bytes l.initial.text ++ flat_map class_text (take l.event-index l.events)
