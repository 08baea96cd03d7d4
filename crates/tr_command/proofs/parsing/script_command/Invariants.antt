use Rattle.std.proofs.Common.{◌≡◌, IfOk, codes, fold, map, take}
use Rattle.clap.specs.Words.{app_of, new_app}
use Rattle.tr_command.specs.Asked.{command_in}
use Rattle.tr_command.specs.Language.{with_command}
use Rattle.tr_command.proofs.parsing.script_command.Given as goal

-- the command line with the first of the commands, if memory was there
abbrev pub invariant-commands : goal.invariant-commands
invariant-commands l =
    IfOk l.program (λ p. app_of p ≡ fold with_command (new_app (codes "tracerd")) (map command_in (take l.row-index l.row-items)))
