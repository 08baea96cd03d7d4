-- Ordinary lines: the rows that the uses of a line's arguments give, and what clap makes of the words after a command.
use Rattle.std.specs.Prelude.{◌≡◌, if◌then◌else◌, List, [], ◌∷◌, ◌++◌, Some, None, length, map, nat_lt, ◌==◌, ◌&&◌, Bool, true, false, not, is_some, codes}
use Rattle.std.specs.List.{list_all, list_any}
use Rattle.std.specs.Option.{option_map_or}
use Rattle.std.specs.Str.{bytes_eq}
use Rattle.clap.specs.Faults.{level_fault}
use Rattle.clap.specs.Lexer.{long_of}
use Rattle.clap.specs.Matches.{found_of}
use Rattle.clap.specs.Simple.{Shape, built_leaf, new_shape}
use Rattle.clap.specs.Walk.{Row, Rule, Text, has_row, nothing_held, rows_after, rows_of}
use Rattle.clap.specs.declared.builder.value_parser.Reading.TheVariants.{AsWritten}
use Rattle.clap.specs.declared.parser.matches.ValueSource.{ValueSource}
use Rattle.clap.specs.declared.parser.matches.ValueSource.TheVariants.{CommandLine, DefaultValue}
use Rattle.tr_command.specs.CommandLine.{rule}
use Rattle.tr_command.specs.Language.{is_free_of_faults}
use Rattle.tr_command.specs.declared.arguments.Argument.{Argument}
use Rattle.tr_command.specs.declared.arguments.Argument.TheVariants as argument
use Rattle.tr_command.specs.declared.ordinary.Verdict.{Verdict}
use Rattle.tr_command.specs.declared.ordinary.Verdict.TheVariants as verdict
use Rattle.tr_command.specs.declared.uses.Use.{Use}
use Rattle.tr_command.specs.declared.uses.Use.TheVariants as used
use Rattle.tr_command.specs.declared.values.Values.{Values}
use Rattle.tr_command.specs.declared.values.Values.TheVariants as values

-- the word begins with no hyphen
abbrev pub is_plain : Text → Bool
is_plain [] = true
is_plain (byte ∷ bytes) = not (byte == 45)

abbrev pub is_place : Argument → Bool
is_place (argument.Placed name) = true
is_place _ = false

-- the option or flag that `--name` calls
abbrev pub is_called : Text → Argument → Bool
is_called name (argument.Placed own) = false
is_called name (argument.Named own) = bytes_eq own.now name
is_called name (argument.Flag own) = bytes_eq own.now name

-- ---- rows

-- the row of an argument with one text
abbrev pub text_row : Text → Text → ValueSource → Row
text_row id text source = record { id = id; values = text ∷ []; count = None; source = Some source; reading = AsWritten }

-- the row that a use gives
abbrev pub row_of_use : Use → Row
row_of_use (used.Text name text) = text_row name.now text.now CommandLine
row_of_use (used.Given name) = text_row name.now (codes "true") CommandLine
row_of_use (used.LeftOut name) = text_row name.now (codes "false") DefaultValue

-- the rows, and one more if the argument is a flag that is left out
abbrev pub left_out : List Row → Argument → List Row
left_out rows (argument.Flag name) =
    if has_row name.now rows then rows else rows ++ text_row name.now (codes "false") DefaultValue ∷ []
left_out rows _ = rows

-- the rows of the values of a command's arguments
abbrev pub rows_in : Values → List Row
rows_in (values.Matches matches) = rows_of (found_of matches.now)
rows_in (values.Uses uses) = map row_of_use uses.now

-- ---- what clap makes of the words after a command

-- the command of this name and these rules, as clap builds it
abbrev pub leaf : Text → List Rule → Shape
leaf name rules = built_leaf (record (new_shape name) { rules = rules })

-- the command of this name and these arguments, as clap builds it
abbrev pub shape_of : Text → List Argument → Shape
shape_of name arguments = leaf name (map rule arguments)

-- clap finds no fault in these words after the command's name, and gives these rows
abbrev pub IsTaken : Shape → List Text → List Row → Type 0
IsTaken s words rows = (level_fault s [] nothing_held words false [] ≡ []) × (rows_after s.rules [] words ≡ rows)

-- clap finds a fault in them
abbrev pub IsRefused : Shape → List Text → Type 0
IsRefused s words = is_free_of_faults (level_fault s [] nothing_held words false []) ≡ false

-- the verdict on these words; if clap takes them, these are the uses
abbrev pub IsVerdict : Shape → List Text → List Use → Verdict → Type 0
IsVerdict s words uses verdict.Taken = IsTaken s words (map row_of_use uses)
IsVerdict s words uses verdict.Refused = IsRefused s words

-- ---- the names of a command's arguments

-- clap reads `--name` as the name
abbrev pub is_long_name : Text → Bool
is_long_name name = option_map_or (λ p. bytes_eq p.0 name && not (is_some p.1)) (long_of (45 ∷ 45 ∷ name)) false

-- no two arguments have the same name
abbrev pub has_distinct_names : List Rule → Bool
has_distinct_names [] = true
has_distinct_names (r ∷ rules) = not (list_any (λ q. bytes_eq r.id q.id) rules) && has_distinct_names rules

-- clap numbers every place, and finds each argument by its name, `--help` with them
abbrev pub is_well_named : List Rule → Bool
is_well_named rules = nat_lt (length rules) 1000
    && (has_distinct_names (leaf [] rules).rules && list_all (λ r. option_map_or is_long_name r.long true) rules)
