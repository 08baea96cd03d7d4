use Rattle.std.proofs.Common.{◌≡◌, drop, map}
use Rattle.clap.specs.Walk.{has_row}
use Rattle.tr_command.specs.Ordinary.{row_of_use}
use Rattle.tr_command.proofs.uses.is_used.Given as goal

-- no use so far has that name
abbrev pub invariant-uses : goal.invariant-uses
invariant-uses l = has_row l.name (map row_of_use l.uses) ≡ has_row l.name (map row_of_use (drop l.used-index l.uses))
