use Rattle.std.proofs.Common.{◌≡◌, ◌++◌, take}
use Rattle.std.specs.List.{flat_map}
use Rattle.std.specs.String.{string_bytes}
use Rattle.tr_events.specs.Words.{event_line}
use Rattle.tr_events.proofs.words.push_event_lines.Given as goal

abbrev pub invariant-loop-event : goal.invariant-loop-event
invariant-loop-event g l = string_bytes l.text ≡ string_bytes l.initial.text ++ flat_map event_line (take l.event-index l.events)
