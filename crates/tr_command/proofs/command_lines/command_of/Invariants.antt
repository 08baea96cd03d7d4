use Rattle.std.proofs.Common.{◌≡◌, false, map, take}
use Rattle.clap.specs.Words.{app_of}
use Rattle.clap.specs.declared.builder.command.Command.TheViews.{out-Command as fields_of}
use Rattle.tr_command.specs.CommandLine.{line_app, rule}
use Rattle.tr_command.proofs.command_lines.command_of.Given as goal

-- the command with the first of its arguments
abbrev pub invariant-arguments : goal.invariant-arguments
invariant-arguments l = (app_of l.command ≡ line_app l.fn.name (map rule (take l.given-index l.arguments)))
    × ((fields_of l.command).has_globals ≡ false)
