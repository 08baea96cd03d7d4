-- How far clap has come in the words after a command, between two uses of an ordinary line.
use Rattle.std.specs.Prelude.{◌≡◌, ◌+◌, ℕ, Option, None, fold, length, map, Bool, true, false, List, [], ◌∷◌, ◌++◌}
use Rattle.std.specs.List.{list_all}
use Rattle.clap.specs.Faults.{check_fault, defaults_fault, level_fault, settle_fault, walk_fault}
use Rattle.clap.specs.Kinds.{Kinds, or_else}
use Rattle.clap.specs.Simple.{Shape}
use Rattle.clap.specs.Takes.{is_given}
use Rattle.clap.specs.Walk.{Held, Row, Text, Walk, finished, has_row, idle, nothing_held, rows_after, settled, settled_rows, walked}
use Rattle.tr_command.specs.CommandLine.{rule}
use Rattle.tr_command.specs.Ordinary.{is_place, is_well_named, shape_of}
use Rattle.tr_command.specs.declared.arguments.Argument.{Argument}
use Rattle.tr_command.specs.declared.arguments.Argument.TheVariants as argument

-- what clap holds: rows, and an argument with texts that aren't a row yet, if there is one
abbrev pub held : List Row → Option (Text × List Text) → Held
held kept pending = record { rows = kept; pending = pending; skip = 0 }

-- clap's walk over words, when it holds this and the next place has this number
abbrev pub walk_at : List Row → Option (Text × List Text) → ℕ → Walk
walk_at kept pending place =
    record { held = held kept pending; waiting = idle; position = place; is_trailing = false; stopped = None }

-- what clap makes of these words from here on: its faults, and the rows
abbrev pub fault_from : Shape → Walk → List Text → Kinds
fault_from s w words =
    let end = (fold (walked s.rules []) w words).held in
    or_else (walk_fault s [] w words) (or_else (settle_fault s.rules s.args_override_self end)
    (or_else (defaults_fault (settled s.rules end).rows s.rules) (check_fault s (finished s.rules end) false)))

abbrev pub rows_from : Shape → Walk → List Text → List Row
rows_from s w words = finished s.rules (fold (walked s.rules []) w words).held

-- with what is pending, clap holds these rows, and finds no fault in it
pub record Settles (s : Shape) (kept : List Row) (pending : Option (Text × List Text)) (rows : List Row) : Type 0 where
  pub gives : settled_rows s.rules pending kept ≡ rows
  pub passes : settle_fault s.rules s.args_override_self (held kept pending) ≡ []

-- the argument is no place, or has a row
abbrev pub is_filled : List Row → Argument → Bool
is_filled rows (argument.Placed name) = is_given name.now rows
is_filled rows _ = true

-- clap comes to these words of a line: these are the rows of those before, these arguments follow the places that are
-- filled, and what clap makes of the whole line is what it makes of these words from here on
pub record ComesTo (s : Shape) (arguments : List Argument) (all : List Text) (rows : List Row) (places : List Argument) (words : List Text) : Type 0 where
  pub kept : List Row
  pub pending : Option (Text × List Text)
  pub settles : Settles s kept pending rows
  pub before : List Argument
  pub whole : before ++ places ≡ arguments
  pub are_places : list_all is_place before ≡ true
  pub are_filled : list_all (is_filled rows) before ≡ true
  pub fault : fault_from s (walk_at kept pending (1 + length before)) words ≡ level_fault s [] nothing_held all false []
  pub taken : rows_from s (walk_at kept pending (1 + length before)) words ≡ rows_after s.rules [] all

-- when clap comes to these words, and this row's argument isn't used yet, then it gives this row and comes to the rest
abbrev pub IsNext : List Argument → (places : List Argument) (words : List Text) → Row → (left : List Argument) (rest : List Text) → Type 0
IsNext arguments places words row left rest =
    (name : Text) (all : List Text) (rows : List Row) → is_well_named (map rule arguments) ≡ true → has_row row.id rows ≡ false
    → ComesTo (shape_of name arguments) arguments all rows places words
    → ComesTo (shape_of name arguments) arguments all (rows ++ row ∷ []) left rest

-- the first of these arguments is a place without a row
abbrev pub IsWanted : List Row → List Argument → Type 0
IsWanted rows (argument.Placed name ∷ arguments) = has_row name.now rows ≡ false
IsWanted rows _ = ⊥
