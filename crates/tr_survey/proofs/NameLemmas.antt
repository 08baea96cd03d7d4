-- Names of streams' files, cut at their last underscore.
use Rattle.std.proofs.Common.{◌≡◌, ◌≢◌, ◌+◌, ◌-◌, ◌<◌, ◌≤◌, ℕ, Bool, true, false, not, cond, eqb, refl, sym, ap, ◌∙◌, arith, List, [], length, take, drop, get_or, Option, Some, None, lit<}
use Rattle.std.specs.Prelude.{IsTrue, IsSome, is_some}
use Rattle.std.specs.Option.{option_map}
use Rattle.std.specs.List.{after_last, before_last, suffix_len}
use Rattle.std.specs.Str.{NoCharPasses}
use Rattle.std.specs.Str.Pattern.{RFindsChar, SplitsAroundMatch}
use Rattle.std.proofs.lemmas.Grind.{common_steps}
use Rattle.std.proofs.lemmas.List.{get_or-drop, length-drop}
use Rattle.std.proofs.lemmas.List.Sums.{suffix_len_is}
use Rattle.std.proofs.lemmas.Str.Pattern.{NoCharPasses-char}
use Rattle.tr_events.specs.Numbers.{number_of}
use Rattle.tr_survey.specs.Names.{is_underscore, of_parts, stream_named, stream_of}
use Rattle.tr_survey.specs.Order.{Numbered}
use Rattle.tr_terms.specs.Names.{is_name}

-- another byte
abbrev is_other : ℕ → Bool
is_other b = not (is_underscore b)

other : (b : ℕ) → b ≢ 95 → is_other b ≡ true
other b h = grind (arith, common_steps)

underscore : (b : ℕ) → b ≡ 95 → is_other b ≡ false
underscore b e = rw e refl

-- without an underscore nothing is before it
no_front : (name : List ℕ) → suffix_len is_other name ≡ length name - 0 → before_last is_underscore name ≡ []
no_front name e =
    let none : length name - suffix_len is_other name - 1 ≡ 0 = omega (arith, e) in
    ap (λ (n : ℕ). take n name) none

pub none_before : (name : List ℕ) → NoCharPasses (λ d. eqb d 95) name → before_last is_underscore name ≡ []
none_before name none =
    no_front name (suffix_len_is is_other name 0 0 (omega arith)
    (λ k low high. other _ (NoCharPasses-char 95 name k none (lit< tt) high))
    (λ h. absurd (omega arith)))

pub named_none : (name : List ℕ) → NoCharPasses (λ d. eqb d 95) name → None ≡ stream_named name
named_none name none = ap (λ (front : List ℕ). stream_of front (after_last is_underscore name)) (sym (none_before name none))

-- the bytes after this place are others, and an underscore is before it
record CutAt (name : List ℕ) (j : ℕ) : Type 0 where
  before : suffix_len is_other name ≡ length name - j

cut_at : (name : List ℕ) (i j : ℕ) → NoCharPasses (λ d. eqb d 95) (drop j name) → j ≡ i + 1 → get_or name i 0 ≡ 95 → j ≤ length name → CutAt name j
cut_at name i j none next at within = record {
  before = suffix_len_is is_other name j 0 within
      (λ k low high.
      let place : j + (k - j) ≡ k = omega arith in
      let l = length-drop j name in
      let here : k - j < length (drop j name) = omega (arith, l) in
      other _ (λ e. NoCharPasses-char 95 (drop j name) (k - j) none (lit< tt) here
      (get_or-drop j name (k - j) 0 ∙ ap (λ (n : ℕ). get_or name n 0) place ∙ e)))
      (λ h. let place : j - 1 ≡ i = omega arith in underscore _ (ap (λ (n : ℕ). get_or name n 0) place ∙ at));
}

-- what a split at the last underscore gives
pub named_at : (name front back : List ℕ) → SplitsAroundMatch (RFindsChar 95) name front back → stream_named name ≡ stream_of front back
named_at name front back s =
    let i = s.0 in
    let j = s.1 in
    let next : j ≡ i + 1 = s.2.1.ends in
    let within : j ≤ length name = omega (arith, s.7) in
    let cut = cut_at name i j s.2.0 next (s.2.1.byte (lit< tt)) within in
    let front_place : length name - suffix_len is_other name - 1 ≡ i = omega (arith, cut.before) in
    let back_place : length name - suffix_len is_other name ≡ j = omega (arith, cut.before) in
    let is_front : before_last is_underscore name ≡ front = ap (λ (n : ℕ). take n name) front_place ∙ sym s.3 in
    let is_back : after_last is_underscore name ≡ back = ap (λ (n : ℕ). drop n name) back_place ∙ sym s.4 in
    ap (λ (l : List ℕ). stream_of l (after_last is_underscore name)) is_front ∙ ap (λ (l : List ℕ). stream_of front l) is_back

-- ---- what a channel's name and digits come to

not_name : (test : Bool) (some : Option Numbered) → (test ≡ true → ⊥) → None ≡ cond test some None
not_name true some none = absurd (none refl)
not_name false some none = refl

pub no_name : (channel digits : List ℕ) → (is_name channel ≡ true → ⊥) → None ≡ stream_of channel digits
no_name channel digits none = not_name (is_name channel) (option_map (of_parts channel) (number_of digits)) none

both_none : (test : Bool) (o : Option Numbered) → o ≡ None → None ≡ cond test o None
both_none true o e = sym e
both_none false o e = refl

pub no_number : (channel digits : List ℕ) → None ≡ number_of digits → None ≡ stream_of channel digits
no_number channel digits none =
    both_none (is_name channel) (option_map (of_parts channel) (number_of digits)) (ap (option_map (of_parts channel)) (sym none))

pub both_there : (channel digits : List ℕ) (n : ℕ) → is_name channel ≡ true → Some n ≡ number_of digits → Some (of_parts channel n) ≡ stream_of channel digits
both_there channel digits n name some =
    ap (λ test. cond test (Some (of_parts channel n)) None) (sym name)
    ∙ ap (λ o. cond (is_name channel) (option_map (of_parts channel) o) None) some

-- a text is a name just where one is made of it
pub refused : {X : Type 0} (o : Option X) (r : Bool) (name : Bool) → (IsTrue name → IsSome o) → is_some o ≡ not r → r ≡ true → name ≡ true → ⊥
refused None r name makes is told e = absurd (let h = makes e in cc)
refused (Some x) r name makes is told e = absurd cc

pub taken : {X : Type 0} (o : Option X) (r : Bool) (name : Bool) → (IsSome o → IsTrue name) → is_some o ≡ not r → r ≡ false → name ≡ true
taken o r name makes is told = grind (arith, common_steps)
