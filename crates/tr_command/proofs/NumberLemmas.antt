-- What std reads as a number, if the text has only digits.
use Rattle.std.proofs.Common.{◌≡◌, ◌∙◌, ◌<◌, ◌≤◌, ◌^◌, ◌&&◌, ℕ, Bool, true, false, refl, ap, subst, arith, List, [], ◌∷◌, Some, None, length, nat_lt, nat_le, le-leb, lt-ltb, ltb-true, cond}
use Rattle.std.specs.List.{list_all}
use Rattle.std.specs.Char.{digit_value}
use Rattle.std.specs.Str.Parse.{AllDigits, IsNumeral, digits_value, without_leading_plus}
use Rattle.std.proofs.lemmas.Grind.{common_steps}
use Rattle.tr_command.specs.Number.{begins_with_plus, is_digit, number_of}
use Rattle.tr_terms.proofs.BoolLemmas.{both}

digit-below : (b : ℕ) → is_digit b ≡ true → digit_value b < 10
digit-below b e = grind (arith, common_steps)

digit-above : (b : ℕ) → is_digit b ≡ true → 48 ≤ b
digit-above b e = grind (arith, common_steps)

digit-is : (b : ℕ) → digit_value b < 10 → is_digit b ≡ true
digit-is b e = grind (arith, common_steps)

pub all_digits : (text : List ℕ) → list_all is_digit text ≡ true → AllDigits 10 text
all_digits [] e = tt
all_digits (b ∷ bs) e = (digit-below b (both _ _ e).0, all_digits bs (both _ _ e).1)

are_digits : (text : List ℕ) → AllDigits 10 text → list_all is_digit text ≡ true
are_digits [] h = refl
are_digits (b ∷ bs) h = rw (digit-is b h.0) (are_digits bs h.1)

-- without a plus std reads the whole text
whole : (text : List ℕ) → begins_with_plus text ≡ false → without_leading_plus text ≡ text
whole [] e = refl
whole (b ∷ bs) e = rw e refl

-- a plus is no digit
pub number_of-plus : (most : ℕ) (text : List ℕ) → begins_with_plus text ≡ true → None ≡ number_of most text
number_of-plus most [] e = cc
number_of-plus most (b ∷ bs) e = grind (arith, common_steps)

-- if std reads a number, it is the one of at most `most`
pub number_of-read : (most : ℕ) (text : List ℕ) (n : ℕ) → begins_with_plus text ≡ false → IsNumeral 10 (without_leading_plus text)
    → n ≡ digits_value 10 (without_leading_plus text) → n ≤ most → Some n ≡ number_of most text
number_of-read most text n plain numeral is within =
    let same = whole text plain in
    let h : IsNumeral 10 text = subst (IsNumeral 10) same numeral in
    let value : n ≡ digits_value 10 text = is ∙ ap (digits_value 10) same in
    let most_is : digits_value 10 text ≤ most = subst (λ (k : ℕ). k ≤ most) value within in
    rw (value, are_digits text h.1, lt-ltb 0 (length text) h.0, le-leb (digits_value 10 text) most most_is) refl

-- if std reads no number, there is none of at most `most`
pub number_of-none : (most : ℕ) (text : List ℕ) → most < 2 ^ 64 → begins_with_plus text ≡ false
    → ((IsNumeral 10 (without_leading_plus text) × (digits_value 10 (without_leading_plus text) < 2 ^ 64)) → ⊥)
    → None ≡ number_of most text
number_of-none most text fits plain refused =
    go (nat_lt 0 (length text)) (list_all is_digit text) (nat_le (digits_value 10 text) most) refl refl refl
  where
    none : (IsNumeral 10 text × (digits_value 10 text < 2 ^ 64)) → ⊥
    none = subst (λ (bs : List ℕ). (IsNumeral 10 bs × (digits_value 10 bs < 2 ^ 64)) → ⊥) (whole text plain) refused

    go : (a b c : Bool) → nat_lt 0 (length text) ≡ a → list_all is_digit text ≡ b → nat_le (digits_value 10 text) most ≡ c
        → None ≡ number_of most text
    go false b c e f g = rw e refl
    go true false c e f g = rw (e, f) refl
    go true true false e f g = rw (e, f, g) refl
    go true true true e f g = absurd (none ((ltb-true _ _ e, all_digits text f), grind (arith, common_steps)))

-- what is read is at most `most`
pub number_of-at_most : (most : ℕ) (text : List ℕ) (n : ℕ) → number_of most text ≡ Some n → n ≤ most
number_of-at_most most text n is = go (nat_lt 0 (length text) && list_all is_digit text) (nat_le (digits_value 10 text) most) refl is
  where
    go : (a b : Bool) → nat_le (digits_value 10 text) most ≡ b
        → cond (nat_lt 0 (length text) && (list_all is_digit text && nat_le (digits_value 10 text) most))
        (Some (digits_value 10 text)) None ≡ Some n → n ≤ most
    go a b e f = grind (arith, common_steps)
