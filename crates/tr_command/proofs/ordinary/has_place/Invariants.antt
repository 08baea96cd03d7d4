use Rattle.std.proofs.Common.{◌≡◌, drop}
use Rattle.std.specs.List.{list_any}
use Rattle.tr_command.specs.Ordinary.{is_place}
use Rattle.tr_command.proofs.ordinary.has_place.Given as goal

-- no argument so far is a place
abbrev pub invariant-arguments : goal.invariant-arguments
invariant-arguments l = list_any is_place l.arguments ≡ list_any is_place (drop l.argument-index l.arguments)
