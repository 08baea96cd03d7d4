-- The names of sessions and channels.
use Rattle.std.specs.List.{list_all}
use Rattle.std.specs.Prelude.{ℕ, List, [], ◌∷◌, Bool, false, not, ◌&&◌, ◌||◌, ◌==◌, nat_le, length}
use Rattle.tr_terms.specs.declared.limits.TheConstants.{LONGEST_NAME}

abbrev pub is_letter : ℕ → Bool
is_letter b = (nat_le 65 b && nat_le b 90) || (nat_le 97 b && nat_le b 122)

-- a letter, a digit or an underscore
abbrev pub is_of_name : ℕ → Bool
is_of_name b = is_letter b || ((nat_le 48 b && nat_le b 57) || b == 95)

-- 1 to 64 of these, a letter first
abbrev pub is_name : List ℕ → Bool
is_name [] = false
is_name (b ∷ bytes) = is_letter b && (list_all is_of_name bytes && nat_le (length (b ∷ bytes)) LONGEST_NAME)

-- one folder or one file below another one: no slash leads further, and no dot leads up
abbrev pub is_plain : ℕ → Bool
is_plain b = not (b == 46 || b == 47)
