-- Variables of a trace's environment: what a program says of itself, as its host, its name and its process.
use Rattle.std.specs.Prelude.{ℕ, Bool, false, not, ◌&&◌, ◌||◌, ◌==◌, nat_le, nat_lt, List, [], ◌∷◌, codes, length, is_some, bytes_eq}
use Rattle.std.specs.List.{list_all, list_any}
use Rattle.tr_terms.specs.Names.{is_name}
use Rattle.tr_events.specs.declared.variables.TheConstants.{LONGEST_VALUE}
use Rattle.tr_events.specs.Numbers.{integer_of}

pub record Variable : Type 0 where
  pub name : List ℕ
  pub value : List ℕ

abbrev pub variable : List ℕ → List ℕ → Variable
variable name value = record { name = name; value = value }

-- ---- names

-- the words of the language of metadata that are names, in the order of the alphabet
abbrev pub reserved : List (List ℕ)
reserved =
    codes "align" ∷ codes "callsite" ∷ codes "char" ∷ codes "clock" ∷ codes "const" ∷ codes "double" ∷ codes "enum" ∷ codes "env"
    ∷ codes "event" ∷ codes "float" ∷ codes "floating_point" ∷ codes "int" ∷ codes "integer" ∷ codes "long" ∷ codes "short"
    ∷ codes "signed" ∷ codes "stream" ∷ codes "string" ∷ codes "struct" ∷ codes "trace" ∷ codes "typealias" ∷ codes "typedef"
    ∷ codes "unsigned" ∷ codes "variant" ∷ codes "void" ∷ []

abbrev pub is_variable_name : List ℕ → Bool
is_variable_name name = is_name name && not (list_any (bytes_eq name) reserved)

-- readers take only a text of it
abbrev pub is_of_text : List ℕ → Bool
is_of_text name = bytes_eq name (codes "hostname") || (bytes_eq name (codes "procname") || bytes_eq name (codes "domain"))

-- readers take only a number of it
abbrev pub is_of_number : List ℕ → Bool
is_of_number name = bytes_eq name (codes "vpid")

-- ---- values

-- a whole number that fits 64 bits with a sign: readers show no greater one as it is
abbrev pub is_number : List ℕ → Bool
is_number value = is_some (integer_of value)

-- it ends no quoted text
abbrev pub is_unquoted : ℕ → Bool
is_unquoted b = not (b == 34 || b == 92)

abbrev pub begins_with : ℕ → List ℕ → Bool
begins_with first [] = false
begins_with first (b ∷ text) = b == first

-- a comment would end in it
abbrev pub ends_comment : List ℕ → Bool
ends_comment [] = false
ends_comment (b ∷ text) = (b == 42 && begins_with 47 text) || ends_comment text

-- it can stand between quotes, and in a comment
abbrev pub is_value : List ℕ → Bool
is_value value = nat_lt 0 (length value) && (nat_le (length value) LONGEST_VALUE && (list_all is_unquoted value && not (ends_comment value)))

-- a variable of this name may have this value
abbrev pub may_be : List ℕ → List ℕ → Bool
may_be name value = is_value value && (not (is_of_number name) || is_number value)

-- readers are told a number, and else a text between quotes
abbrev pub is_told_as_number : Variable → Bool
is_told_as_number v = is_number v.value && not (is_of_text v.name)
