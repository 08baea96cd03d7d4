use Rattle.std.proofs.Common.{◌≡◌, ◌++◌, take}
use Rattle.std.specs.List.{flat_map}
use Rattle.std.specs.String.{string_bytes}
use Rattle.tr_metadata.specs.Metadata.{variable_text}
use Rattle.tr_metadata.proofs.env.push_variables.Given as goal

abbrev pub invariant-loop-variable : goal.invariant-loop-variable
invariant-loop-variable g l = string_bytes l.text ≡ string_bytes l.initial.text ++ flat_map variable_text (take l.variable-index l.env)
