use Rattle.std.proofs.Common.{◌≡◌, ◌++◌, take}
use Rattle.std.specs.List.{flat_map}
use Rattle.std.specs.String.{string_bytes}
use Rattle.tr_events.specs.Words.{env_line}
use Rattle.tr_events.proofs.words.push_env_lines.Given as goal

abbrev pub invariant-loop-variable : goal.invariant-loop-variable
invariant-loop-variable g l = string_bytes l.text ≡ string_bytes l.initial.text ++ flat_map env_line (take l.variable-index l.env)
