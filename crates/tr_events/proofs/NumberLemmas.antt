-- What std reads as a number, if the text has only digits; and a number that is written is read.
use Rattle.std.proofs.Common.{◌≡◌, ◌∙◌, inl, inr, ◌+◌, ◌%◌, ◌<◌, ◌≤◌, ◌^◌, ◌&&◌, ℕ, Bool, true, false, not, refl, ap, arith, List, [], ◌∷◌, Some, None, get_or, length, nat_lt, ltb-true, cond, zero, suc, lit<}
use Rattle.std.specs.Fmt.{decimal}
use Rattle.std.specs.List.{list_all}
use Rattle.std.specs.Char.{digit_value}
use Rattle.std.specs.Str.{IsAscii, IsUtf8}
use Rattle.std.specs.Str.Parse.{AllDigits, IsNumeral, digits_value, without_leading_plus}
use Rattle.std.proofs.lemmas.Bool.{lt-ltb, le-leb, cases_order}
use Rattle.std.proofs.lemmas.Fmt.{decimal_by_steps, decimal_digit, decimal_is_IsNumeral, decimal_nonempty, first_decimal}
use Rattle.std.proofs.lemmas.Grind.{common_steps}
use Rattle.std.proofs.lemmas.List.Folds.{list_all-append}
use Rattle.std.proofs.lemmas.Str.{IsUtf8-from_ascii}
use Rattle.tr_events.specs.Numbers.{has_spare_zero, is_digit, number_of}
use Rattle.tr_terms.proofs.BoolLemmas.{both}

digit-below : (b : ℕ) → is_digit b ≡ true → digit_value b < 10
digit-below b e = grind (arith, common_steps)

digit-above : (b : ℕ) → is_digit b ≡ true → 48 ≤ b
digit-above b e = grind (arith, common_steps)

digit-ascii : (b : ℕ) → is_digit b ≡ true → b < 128
digit-ascii b e = grind (arith, common_steps)

-- a digit is no plus
pub without_leading_plus-digits : (text : List ℕ) → list_all is_digit text ≡ true → without_leading_plus text ≡ text
without_leading_plus-digits [] e = refl
without_leading_plus-digits (b ∷ bs) e = let above = digit-above b (both _ _ e).0 in grind (arith, common_steps)

pub all_digits : (text : List ℕ) → list_all is_digit text ≡ true → AllDigits 10 text
all_digits [] e = tt
all_digits (b ∷ bs) e = (digit-below b (both _ _ e).0, all_digits bs (both _ _ e).1)

all_ascii : (text : List ℕ) → list_all is_digit text ≡ true → IsAscii text
all_ascii [] e i = lit< tt
all_ascii (b ∷ bs) e zero = digit-ascii b (both _ _ e).0
all_ascii (b ∷ bs) e (suc i) = all_ascii bs (both _ _ e).1 i

pub digits_are_text : (text : List ℕ) → list_all is_digit text ≡ true → IsUtf8 text
digits_are_text text e = IsUtf8-from_ascii text (all_ascii text e)

-- if std reads no number, there is none
pub number_of-none : (text : List ℕ) → list_all is_digit text ≡ true
    → ((IsNumeral 10 text × (digits_value 10 text < 2 ^ 64)) → ⊥) → None ≡ number_of text
number_of-none text digits none =
    rw digits (go (nat_lt 0 (length text)) (not (has_spare_zero text)) (nat_lt (digits_value 10 text) (2 ^ 64)) refl refl)
  where
    go : (a b c : Bool) → nat_lt 0 (length text) ≡ a → nat_lt (digits_value 10 text) (2 ^ 64) ≡ c
        → None ≡ cond (nat_lt 0 (length text) && (true && (b && nat_lt (digits_value 10 text) (2 ^ 64)))) (Some (digits_value 10 text)) None
    go false b c e f = rw e refl
    go true false c e f = rw e refl
    go true true false e f = rw (e, f) refl
    go true true true e f = absurd (none ((ltb-true _ _ e, all_digits text digits), ltb-true _ _ f))

-- ---- written numbers

-- two tests that pass
pub also : (a b : Bool) → a ≡ true → b ≡ true → (a && b) ≡ true
also a b e f = rw (e, f) refl

pub digit_of : (n : ℕ) → n < 10 → is_digit (48 + n) ≡ true
digit_of n small = also _ _ (le-leb 48 (48 + n) (omega arith)) (le-leb (48 + n) 57 (omega arith))

pub digits_written : (n : ℕ) → n < 2 ^ 64 → list_all is_digit (decimal n) ≡ true
digits_written =
    decimal_by_steps (λ n text. list_all is_digit text ≡ true)
    (λ n small. also _ _ (digit_of n small) refl)
    (λ n text more before. list_all-append is_digit text ((48 + n % 10) ∷ [])
    ∙ also _ _ before (also _ _ (digit_of (n % 10) (omega arith)) refl))

-- no zero is in front of other digits
no_zero_in_front : (text : List ℕ) → 48 < get_or text 0 0 → has_spare_zero text ≡ false
no_zero_in_front [] above = refl
no_zero_in_front (b ∷ []) above = refl
no_zero_in_front (b ∷ c ∷ rest) above = grind (arith, common_steps)

no_spare_zero : (n : ℕ) → n < 2 ^ 64 → has_spare_zero (decimal n) ≡ false
no_spare_zero n small =
    elim (cases_order n 0) [
      | inl none ↦ ap has_spare_zero (decimal_digit n (omega arith))
      | inr (inl lt) ↦ absurd (omega arith)
      | inr (inr gt) ↦ no_zero_in_front (decimal n) (first_decimal n gt small)
    ]

number_if : (text : List ℕ) (n : ℕ) → nat_lt 0 (length text) ≡ true → list_all is_digit text ≡ true → has_spare_zero text ≡ false
    → digits_value 10 text ≡ n → nat_lt n (2 ^ 64) ≡ true → number_of text ≡ Some n
number_if text n some digits no_zero value small = rw (some, digits, no_zero, value, small) refl

-- a number that is written is read
pub number_is : (n : ℕ) → n < 2 ^ 64 → number_of (decimal n) ≡ Some n
number_is n small =
    number_if (decimal n) n (lt-ltb 0 (length (decimal n)) (decimal_nonempty n small)) (digits_written n small) (no_spare_zero n small)
    (decimal_is_IsNumeral n small).1 (lt-ltb n (2 ^ 64) small)
