use Rattle.std.proofs.Common.{◌≡◌, ◌++◌, take}
use Rattle.std.specs.List.{flat_map}
use Rattle.std.specs.String.{string_bytes}
use Rattle.tr_metadata.specs.Metadata.{label_text_rest}
use Rattle.tr_metadata.proofs.classes.push_label_text_rests.Given as goal

abbrev pub invariant-loop-label : goal.invariant-loop-label
invariant-loop-label g l = string_bytes l.text ≡ string_bytes l.initial.text ++ flat_map label_text_rest (take l.label-index l.labels)
