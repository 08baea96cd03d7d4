use Rattle.std.proofs.Common.{◌≡◌, ◌++◌, take}
use Rattle.std.specs.List.{flat_map}
use Rattle.std.specs.String.{string_bytes}
use Rattle.tr_events.specs.Words.{label_rest}
use Rattle.tr_events.proofs.words.push_label_rests.Given as goal

abbrev pub invariant-loop-label : goal.invariant-loop-label
invariant-loop-label g l = string_bytes l.text ≡ string_bytes l.initial.text ++ flat_map label_rest (take l.label-index l.labels)
