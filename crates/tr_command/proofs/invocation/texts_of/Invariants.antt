use Rattle.std.proofs.Common.{◌≡◌, map, take}
use Rattle.std.specs.Prelude.{string_bytes}
use Rattle.tr_command.proofs.invocation.texts_of.Given as goal

-- the texts of the first strings
abbrev pub invariant-strings : goal.invariant-strings
invariant-strings l = map (λ t. t.now) l.texts.items ≡ map string_bytes (take l.string-index l.strings)
