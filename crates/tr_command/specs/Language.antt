-- The command language: what the words of a line ask for.
use Rattle.std.specs.Prelude.{◌≡◌, List, [], ◌∷◌, Bool, true, false, Option, None, codes, fold, option_and_then, if◌then◌else◌}
use Rattle.clap.specs.Words.{App, Kinds, Row, Text, fault_of, is_simple, is_simple_and_free, new_app, subcommand_of, with_subcommand}
use Rattle.tr_command.specs.Asked.{Asked, Command, commands, read_command}
use Rattle.tr_command.specs.CommandLine.{line_app}

-- the command line of a command
abbrev pub command_app : Command → App
command_app c = line_app c.name c.rules

-- a command line with one more command
abbrev pub with_command : App → Command → App
with_command app c = with_subcommand app (command_app c).top

-- the command line of a script's line, with all commands
abbrev pub script_app : App
script_app = fold with_command (new_app (codes "tracerd")) commands

abbrev pub is_free_of_faults : Kinds → Bool
is_free_of_faults [] = true
is_free_of_faults (kind ∷ kinds) = false

-- clap's definition covers this command line
abbrev pub IsSimple : App → Type 0
IsSimple app = (is_simple app ≡ true) × (is_simple_and_free app ≡ true)

-- the command that these words enter, and the values of its arguments; none if they are at fault or enter none
abbrev pub entered_by : App → List Text → Option (Text × List Row)
entered_by app words = if is_free_of_faults (fault_of app words) then subcommand_of app words else None

-- what these words ask for if clap reads them by this command line
unfoldable pub asked_from : App → List Text → Option Asked
unfolding commands
asked_from app words = option_and_then (λ entered. read_command entered.0 entered.1) (entered_by app words)

-- what these words ask for, the program's name before them; none is a bad line
abbrev pub asked_of : List Text → Option Asked
asked_of words = asked_from script_app words
