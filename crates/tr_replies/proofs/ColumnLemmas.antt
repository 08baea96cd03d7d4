-- Numbers in columns.
use Rattle.std.proofs.Common.{◌≡◌, ◌-◌, ◌^◌, ℕ, zero, suc, false, refl, ap, [], ◌∷◌, append-nil, arith}
use Rattle.std.specs.Char.{encode_utf8}
use Rattle.std.specs.Fmt.{char_count, decimal, format_spec, number_padding, padded_integral, styled_decimal}
use Rattle.std.specs.List.{repeat}
use Rattle.std.specs.Prelude.{replicate}
use Rattle.tr_replies.specs.Status.{right_aligned}

repeat-one : (n b : ℕ) → repeat n (b ∷ []) ≡ replicate n b
repeat-one zero b = refl
repeat-one (suc n) b = ap (λ bs. b ∷ bs) (repeat-one n b)

padding : (places len : ℕ) → number_padding (format_spec 32 3 0 places (2 ^ 64 - 1)) false [] len ≡ places - len
unfolding char_count
padding places len = omega arith

no_padding : (p : ℕ) → p - p ≡ 0
no_padding p = omega arith

-- what `{:>n}` writes for a number
pub right_decimal : (places n : ℕ) → padded_integral (format_spec 32 3 0 places (2 ^ 64 - 1)) false [] (decimal n) ≡ right_aligned places n
unfolding padded_integral char_count encode_utf8
right_decimal places n = simp (repeat-one, append-nil, no_padding) (simp (append-nil, padding) refl)

pub right_6 : (n : ℕ) → styled_decimal (format_spec 32 3 0 6 (2 ^ 64 - 1)) n ≡ right_aligned 6 n
right_6 n = right_decimal 6 n

pub right_11 : (n : ℕ) → styled_decimal (format_spec 32 3 0 11 (2 ^ 64 - 1)) n ≡ right_aligned 11 n
right_11 n = right_decimal 11 n
