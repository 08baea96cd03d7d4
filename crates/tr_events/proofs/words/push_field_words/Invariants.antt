use Rattle.std.proofs.Common.{◌≡◌, ◌++◌, take}
use Rattle.std.specs.List.{flat_map}
use Rattle.std.specs.String.{string_bytes}
use Rattle.tr_events.specs.Words.{field_word}
use Rattle.tr_events.proofs.words.push_field_words.Given as goal

abbrev pub invariant-loop-field : goal.invariant-loop-field
invariant-loop-field g l = string_bytes l.text ≡ string_bytes l.initial.text ++ flat_map field_word (take l.field-index l.fields)
