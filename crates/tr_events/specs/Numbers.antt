-- Numbers as the product writes them.
use Rattle.std.specs.Prelude.{ℕ, zero, suc, ◌^◌, ℤ, pos, negsuc, Bool, false, not, ◌&&◌, ◌==◌, nat_le, nat_lt, List, [], ◌∷◌, length, Option, Some, None, if◌then◌else◌}
use Rattle.std.specs.List.{list_all}
use Rattle.std.specs.Option.{option_and_then}
use Rattle.std.specs.Str.Parse.{digits_value}

abbrev pub is_digit : ℕ → Bool
is_digit b = nat_le 48 b && nat_le b 57

-- a zero with a digit after it
abbrev pub has_spare_zero : List ℕ → Bool
has_spare_zero [] = false
has_spare_zero (b ∷ []) = false
has_spare_zero (b ∷ c ∷ rest) = b == 48

-- one or more digits, without a spare zero; the number fits 64 bits
abbrev pub number_of : List ℕ → Option ℕ
number_of text =
    if nat_lt 0 (length text) && (list_all is_digit text && (not (has_spare_zero text) && nat_lt (digits_value 10 text) (2 ^ 64)))
    then Some (digits_value 10 text) else None

-- a number below a limit
abbrev pub integer_from : ℕ → Option ℤ
integer_from n = if nat_lt n (2 ^ 63) then Some (pos n) else None

-- the number less than zero by this much, which isn't nothing
abbrev pub below_zero : ℕ → Option ℤ
below_zero zero = None
below_zero (suc n) = if nat_lt n (2 ^ 63) then Some (negsuc n) else None

-- the same with a minus before it, where it isn't zero; it fits 64 bits with a sign
abbrev pub integer_of : List ℕ → Option ℤ
integer_of [] = None
integer_of (b ∷ text) = if b == 45 then option_and_then below_zero (number_of text) else option_and_then integer_from (number_of (b ∷ text))
