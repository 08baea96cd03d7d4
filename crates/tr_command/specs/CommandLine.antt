-- The arguments of a command, as clap sees them, and its command line.
use Rattle.std.specs.Prelude.{List, Some, fold, true}
use Rattle.clap.specs.Words.{App, Rule, Text, new_app, new_rule, with_rule}
use Rattle.clap.specs.declared.builder.action.ArgAction.TheVariants.{SetTrue}
use Rattle.tr_command.specs.declared.arguments.Argument.{Argument}
use Rattle.tr_command.specs.declared.arguments.Argument.TheVariants as argument

-- a required text, by its place
abbrev pub place : Text → Rule
place id = record (new_rule id) { required = true }

-- `--id TEXT`
abbrev pub option : Text → Rule
option id = record (new_rule id) { long = Some id }

-- `--id`
abbrev pub flag : Text → Rule
flag id = record (new_rule id) { long = Some id; action = Some SetTrue }

-- the rule of an argument
abbrev pub rule : Argument → Rule
rule (argument.Placed name) = place name.now
rule (argument.Named name) = option name.now
rule (argument.Flag name) = flag name.now

-- the command of this name with these arguments
abbrev pub line_app : Text → List Rule → App
line_app name rules = fold with_rule (new_app name) rules
