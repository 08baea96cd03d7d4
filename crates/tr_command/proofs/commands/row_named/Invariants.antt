use Rattle.std.proofs.Common.{◌≡◌, drop, map}
use Rattle.std.specs.Prelude.{find}
use Rattle.std.specs.Str.{bytes_eq}
use Rattle.tr_command.specs.Asked.{command_in}
use Rattle.tr_command.proofs.commands.row_named.Given as goal

-- no row so far has that name
abbrev pub invariant-commands : goal.invariant-commands
invariant-commands l = find (λ c. bytes_eq c.name l.name) (map command_in l.row-items)
    ≡ find (λ c. bytes_eq c.name l.name) (map command_in (drop l.row-index l.row-items))
