use Rattle.std.proofs.Common.{◌≡◌, drop}
use Rattle.std.specs.Prelude.{find}
use Rattle.tr_command.specs.Ordinary.{is_called}
use Rattle.tr_command.proofs.ordinary.called.Given as goal

-- no argument so far is called so
abbrev pub invariant-arguments : goal.invariant-arguments
invariant-arguments l = find (is_called l.name) l.arguments ≡ find (is_called l.name) (drop l.argument-index l.arguments)
