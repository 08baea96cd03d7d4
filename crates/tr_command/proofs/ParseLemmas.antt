-- What a parse of a line says of its words, by any command line of this language.
use Rattle.std.proofs.Common.{◌≡◌, ◌≢◌, ◌∙◌, ap, false, refl, option_and_then, inl, inr, List, [], ◌∷◌, Option, Some, None, option_map}
use Rattle.std.specs.Prelude.{Box}
use Rattle.std.specs.Box.{box_value}
use Rattle.clap.specs.Words.{App, HasKind, IsAmong, Kinds, Row, Text, fault_of, kind_of, subcommand_name_of, subcommand_of, subcommand_rows, subcommand_rows_of}
use Rattle.clap.specs.declared.error.Error.{Error}
use Rattle.clap.specs.declared.error.kind.ErrorKind.{ErrorKind}
use Rattle.clap.specs.declared.error.kind.ErrorKind.TheVariants.{OutOfMemory}
use Rattle.clap.specs.declared.parser.matches.ArgMatches.{ArgMatches}
use Rattle.clap.specs.declared.parser.matches.ArgMatches.TheViews.{out-ArgMatches, out-SubCommand}
use Rattle.clap.specs.declared.parser.matches.SubCommand.{SubCommand}
use Rattle.tr_command.specs.Asked.{read_command}
use Rattle.tr_command.specs.Language.{asked_from, asked_of, entered_by, is_free_of_faults, script_app}

is_free_of_faults-among : (k : ErrorKind) (kinds : Kinds) → IsAmong k kinds → is_free_of_faults kinds ≡ false
is_free_of_faults-among k [] h = absurd h
is_free_of_faults-among k (x ∷ kinds) h = refl

-- words with an error for another cause than memory enter nothing
pub entered_by-fault : (app : App) (words : List Text) (e : Error) → HasKind (fault_of app words) e
    → kind_of e ≢ OutOfMemory → None ≡ entered_by app words
entered_by-fault app words e (inl memory) other = absurd (other memory)
entered_by-fault app words e (inr among) other = rw (is_free_of_faults-among (kind_of e) (fault_of app words) among) refl

-- words without a fault enter what a parse entered
pub entered_by-free : (app : App) (words : List Text) (entered : Option (Text × List Row)) → fault_of app words ≡ []
    → entered ≡ subcommand_of app words → entered ≡ entered_by app words
entered_by-free app words entered none is = rw none is

module _ {Z : Type 0} where
  rows-entered : (o : Option (Box SubCommand Z)) (name : Text) (rows : List Row)
      → Some name ≡ option_map (λ b. (out-SubCommand (box_value b)).name.now) o
      → Some rows ≡ option_map (λ p. p.1) (subcommand_rows o) → Some (name, rows) ≡ subcommand_rows o
  rows-entered None name rows e f = cc
  rows-entered (Some b) name rows e f = cc

  rows-none : (o : Option (Box SubCommand Z)) → None ≡ option_map (λ b. (out-SubCommand (box_value b)).name.now) o → None ≡ subcommand_rows o
  rows-none None e = refl
  rows-none (Some b) e = cc

-- the name and the rows of the command that was entered
pub subcommand_rows_of-entered : (m : ArgMatches) (name : Text) (rows : List Row) → Some name ≡ subcommand_name_of m
    → Some rows ≡ option_map (λ p. p.1) (subcommand_rows_of m) → Some (name, rows) ≡ subcommand_rows_of m
subcommand_rows_of-entered m name rows e f = rows-entered (out-ArgMatches m).subcommand name rows e f

pub subcommand_rows_of-none : (m : ArgMatches) → None ≡ subcommand_name_of m → None ≡ subcommand_rows_of m
subcommand_rows_of-none m e = rows-none (out-ArgMatches m).subcommand e

-- what was entered by the command line of a script's line is what the words ask for
pub asked_of-entered : (app : App) (words : List Text) (entered : Option (Text × List Row)) → app ≡ script_app
    → entered ≡ entered_by app words → option_and_then (λ p. read_command p.0 p.1) entered ≡ asked_of words
unfolding asked_from
asked_of-entered app words entered shape is =
    ap (option_and_then (λ (p : Text × List Row). read_command p.0 p.1)) (is ∙ ap (λ (a : App). entered_by a words) shape)
