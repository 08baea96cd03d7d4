use Rattle.std.proofs.Common.{◌≡◌, drop, map}
use Rattle.std.specs.Prelude.{find}
use Rattle.std.specs.Str.{bytes_eq}
use Rattle.tr_command.specs.Ordinary.{row_of_use}
use Rattle.tr_command.proofs.uses.text_of.Given as goal

-- no use so far has that name
abbrev pub invariant-uses : goal.invariant-uses
invariant-uses l = find (λ r. bytes_eq r.id l.name) (map row_of_use l.uses) ≡ find (λ r. bytes_eq r.id l.name) (map row_of_use (drop l.used-index l.uses))
