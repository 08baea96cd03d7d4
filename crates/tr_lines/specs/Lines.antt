-- The lines of a script.
use Rattle.std.specs.Prelude.{◌≡◌, ℕ, List, [], ◌∷◌, ◌++◌, ◌==◌, ◌&&◌, Bool, false, Option, Some, None, length, nat_le, All, if◌then◌else◌}
use Rattle.std.specs.List.{list_all, slice_split}
use Rattle.tr_terms.specs.declared.limits.TheConstants.{LONGEST_LINE}

abbrev pub is_feed : ℕ → Bool
is_feed b = b == 10

-- the parts between newlines; the last one has no newline after it
abbrev pub parts_of : List ℕ → List (List ℕ)
parts_of bytes = slice_split is_feed bytes

abbrev pub all_but_last : List (List ℕ) → List (List ℕ)
all_but_last [] = []
all_but_last (part ∷ []) = []
all_but_last (part ∷ next ∷ parts) = part ∷ all_but_last (next ∷ parts)

-- a last part counts unless it is empty
abbrev pub with_last : List ℕ → List (List ℕ)
with_last [] = []
with_last (b ∷ bytes) = (b ∷ bytes) ∷ []

abbrev pub lines_of_parts : List (List ℕ) → List (List ℕ)
lines_of_parts [] = []
lines_of_parts (part ∷ []) = with_last part
lines_of_parts (part ∷ next ∷ parts) = part ∷ lines_of_parts (next ∷ parts)

-- the lines that end with a newline
abbrev pub whole_lines_of : List ℕ → List (List ℕ)
whole_lines_of bytes = all_but_last (parts_of bytes)

-- all the lines
abbrev pub lines_of : List ℕ → List (List ℕ)
lines_of bytes = lines_of_parts (parts_of bytes)

abbrev pub is_printable : ℕ → Bool
is_printable b = nat_le 0x20 b && nat_le b 0x7e

-- the text of a line; one that is too long or has another byte is a bad line
abbrev pub text_of_line : List ℕ → Option (List ℕ)
text_of_line bytes = if nat_le (length bytes) LONGEST_LINE && list_all is_printable bytes then Some bytes else None

-- the text of a line that goes on
abbrev pub keep_more : Option (List ℕ) → List ℕ → Option (List ℕ)
keep_more None part = None
keep_more (Some text) part = text_of_line (text ++ part)

-- no newline is among the bytes
abbrev pub HasNoFeed : List ℕ → Type 0
HasNoFeed bytes = All (λ b. is_feed b ≡ false) bytes
