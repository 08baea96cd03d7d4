-- The name of a stream's file is read as that stream's.
use Rattle.std.proofs.Common.{◌≡◌, inl, inr, ℕ, suc, ◌+◌, ◌-◌, ◌%◌, ◌^◌, ◌<◌, ◌≤◌, Bool, true, false, not, ◌&&◌, refl, sym, ap, ◌∙◌, arith, List, [], ◌∷◌, ◌++◌, length, take, drop, drop-drop, get_or, Some, nat_lt, length-append}
use Rattle.std.specs.Prelude.{IsTrue}
use Rattle.std.specs.Fmt.{decimal}
use Rattle.std.specs.List.{after_last, before_last, list_all, suffix_len}
use Rattle.std.specs.Str.Parse.{digits_value}
use Rattle.std.proofs.lemmas.Bool.{lt-ltb, le-leb, cases_order}
use Rattle.std.proofs.lemmas.Fmt.{decimal_by_steps, decimal_digit, decimal_is_IsNumeral, decimal_nonempty, first_decimal}
use Rattle.std.proofs.lemmas.Grind.{common_steps}
use Rattle.std.proofs.lemmas.List.{drop_at, get_or-append_right, take_at}
use Rattle.std.proofs.lemmas.List.Folds.{list_all-append}
use Rattle.std.proofs.lemmas.List.Sums.{AllPass-from_list_all, suffix_len_is}
use Rattle.tr_chunk.specs.Files.{file_name}
use Rattle.tr_events.specs.Numbers.{has_spare_zero, is_digit, number_of}
use Rattle.tr_survey.specs.Names.{is_underscore, of_parts, stream_named, stream_of}
use Rattle.tr_terms.specs.Names.{is_name}
use Rattle.tr_survey.proofs.NameLemmas.{both_there}
use Rattle.tr_events.proofs.NumberLemmas.{also, digits_written, number_is}

-- ---- files of streams

-- another byte
abbrev is_other : ℕ → Bool
is_other b = not (is_underscore b)

digit_is_other : (b : ℕ) → is_digit b ≡ true → is_other b ≡ true
digit_is_other b e = grind (arith, common_steps)

-- a byte after the underscore, and the underscore
byte_behind : (channel digits : List ℕ) (k : ℕ) → length channel + 1 ≤ k
    → get_or (channel ++ (95 ∷ digits)) k 0 ≡ get_or digits (k - length channel - 1) 0
byte_behind channel digits k low =
    let place : k - length channel ≡ suc (k - length channel - 1) = omega arith in
    get_or-append_right channel (95 ∷ digits) (length channel) k 0 refl (omega arith) ∙ ap (λ (n : ℕ). get_or (95 ∷ digits) n 0) place

underscore_at : (channel digits : List ℕ) → get_or (channel ++ (95 ∷ digits)) (length channel + 1 - 1) 0 ≡ 95
underscore_at channel digits =
    let place : length channel + 1 - 1 - length channel ≡ 0 = omega arith in
    get_or-append_right channel (95 ∷ digits) (length channel) (length channel + 1 - 1) 0 refl (omega arith)
    ∙ ap (λ (n : ℕ). get_or (95 ∷ digits) n 0) place

-- after the last underscore are the digits
others_behind : (channel digits : List ℕ) → list_all is_digit digits ≡ true
    → suffix_len is_other (channel ++ (95 ∷ digits)) ≡ length digits
others_behind channel digits all =
    let name = channel ++ (95 ∷ digits) in
    let long : length name ≡ length channel + suc (length digits) = length-append channel (95 ∷ digits) in
    let cut : length name - (length channel + 1) ≡ length digits = omega arith in
    suffix_len_is is_other name (length channel + 1) 0 (omega arith)
    (λ k low high.
    let within : k - length channel - 1 < length digits = omega arith in
    ap is_other (byte_behind channel digits k low) ∙ digit_is_other _ (AllPass-from_list_all is_digit digits all _ 0 within))
    (λ _. ap is_other (underscore_at channel digits))
    ∙ cut

-- a name is cut between a channel and digits
named_so : (channel digits : List ℕ) → list_all is_digit digits ≡ true → stream_named (channel ++ (95 ∷ digits)) ≡ stream_of channel digits
named_so channel digits all =
    let name = channel ++ (95 ∷ digits) in
    let long : length name ≡ length channel + suc (length digits) = length-append channel (95 ∷ digits) in
    let behind = others_behind channel digits all in
    let cut : length name - suffix_len is_other name ≡ length channel + 1 = omega (arith, behind) in
    let front_cut : length name - suffix_len is_other name - 1 ≡ length channel = omega (arith, behind) in
    let is_front : before_last is_underscore name ≡ channel =
    ap (λ (k : ℕ). take k name) front_cut ∙ take_at channel (95 ∷ digits) (length channel) refl in
    let is_back : after_last is_underscore name ≡ digits =
    ap (λ (k : ℕ). drop k name) cut ∙ sym (drop-drop 1 (length channel) name) ∙ ap (drop 1) (drop_at channel (95 ∷ digits) (length channel) refl) in
    ap (λ (l : List ℕ). stream_of l (after_last is_underscore name)) is_front ∙ ap (λ (l : List ℕ). stream_of channel l) is_back

pub file_is_of_stream : (channel : List ℕ) (number : ℕ) → IsTrue (is_name channel) → number < 2 ^ 64
    → stream_named (file_name channel number) ≡ Some (of_parts channel number)
file_is_of_stream channel number name small =
    named_so channel (decimal number) (digits_written number small) ∙ sym (both_there channel (decimal number) number name (sym (number_is number small)))
