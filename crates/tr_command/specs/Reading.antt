-- What the values of a command's arguments ask for. None is a bad line.
use Rattle.std.specs.Prelude.{ℕ, ℤ, pos, ◌-ℤ◌, List, [], Bool, false, Option, Some, None, option_map, option_and_then, unwrap_or, codes, if◌then◌else◌}
use Rattle.std.specs.Option.{option_map_or}
use Rattle.std.specs.Str.{bytes_eq}
use Rattle.clap.specs.Words.{Row, Text, first_of, one_of}
use Rattle.tr_terms.specs.declared.mode.Mode.{Mode}
use Rattle.tr_terms.specs.declared.mode.Mode.TheVariants.{Discard, Overwrite}
use Rattle.tr_terms.specs.declared.limits.TheConstants.{MOST_MINUTES}
use Rattle.tr_command.specs.Number.{number_of}

-- `option_and_then` and `option_map`, in the order of reading
abbrev pub and_then : {A B : Type 0} → Option A → (A → Option B) → Option B
and_then value next = option_and_then next value

abbrev pub and_last : {A B : Type 0} → Option A → (A → B) → Option B
and_last value made = option_map made value

abbrev pub most_u32 : ℕ
most_u32 = 4294967295

abbrev pub most_u64 : ℕ
most_u64 = 18446744073709551615

abbrev pub session_given : List Row → Option Text
session_given rows = first_of (codes "session") rows

-- the number of an argument
abbrev pub number_given : Text → ℕ → List Row → Option ℕ
number_given id most rows = and_then (first_of id rows) (number_of most)

-- the number of an option, 0 if it is left out
abbrev pub number_or_0 : Text → ℕ → List Row → Option ℕ
number_or_0 id most rows = option_map_or (number_of most) (first_of id rows) (Some 0)

-- the number of an option, none if it is left out
abbrev pub number_if_given : Text → ℕ → List Row → Option (Option ℕ)
number_if_given id most rows =
    option_map_or (λ text. and_last (number_of most text) (λ n. Some n)) (first_of id rows) (Some None)

-- the text of an option, empty if it is left out
abbrev pub text_or_empty : Text → List Row → Text
text_or_empty id rows = unwrap_or (first_of id rows) []

-- whether a flag is given; clap says so by the text `true`
abbrev pub has_flag : Text → List Row → Bool
has_flag id rows = option_map_or (bytes_eq (codes "true")) (one_of id rows) false

abbrev pub mode_named : Text → Option Mode
mode_named text =
    if bytes_eq text (codes "discard") then Some Discard else
    (if bytes_eq text (codes "overwrite") then Some Overwrite else None)

abbrev pub mode_given : Text → List Row → Option Mode
mode_given id rows = and_then (first_of id rows) mode_named

-- the minutes ahead of UTC: those to the east, less those to the west
abbrev pub offset_given : List Row → Option ℤ
offset_given rows =
    and_then (number_or_0 (codes "east") MOST_MINUTES rows) (λ east.
    and_last (number_or_0 (codes "west") MOST_MINUTES rows) (λ west.
    pos east -ℤ pos west))
