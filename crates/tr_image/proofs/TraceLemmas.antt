-- How an image is searched for the trace that it names, place by place and window by window.
use Rattle.std.proofs.Common.{◌≡◌, ◌<◌, ◌≤◌, ◌+◌, ◌∙◌, ◌*◌, ◌-◌, ℕ, zero, suc, true, false, List, [], ◌∷◌, ◌++◌, Option, Some, None, length, take, drop, refl, sym, ap, arith, append-nil, length-append, take_all}
use Rattle.std.proofs.lemmas.List.{length-take, take-append-le}
use Rattle.std.specs.List.{copy_within}
use Rattle.std.specs.Option.{is_some, option_and_then, option_or}
use Rattle.tr_image.specs.Traces.{TraceState, opened, reach, trace_at, trace_before, trace_in, trace_of}
use Rattle.tr_image.proofs.WindowLemmas.{joined, moved}

abbrev Wanted : Type 0
Wanted = Option (List ℕ)

abbrev Found : Type 0
Found = Option TraceState

-- ---- one that was found, or not

pub some_of : (x : Found) → is_some x ≡ true → (t : TraceState) × (x ≡ Some t)
some_of None e = absurd cc
some_of (Some t) e = (t, refl)

pub none_of : (x : Found) → is_some x ≡ false → x ≡ None
none_of None e = refl
none_of (Some t) e = absurd cc

pub never : (x : Found) (t : TraceState) → x ≡ None → x ≡ Some t → ⊥
never None t none some = cc
never (Some u) t none some = cc

-- ---- place by place

pub none_at_first : (wanted : Wanted) (bytes : List ℕ) → trace_before 0 wanted bytes ≡ None
none_at_first wanted [] = refl
none_at_first wanted (b ∷ bytes) = refl

or_none : (x : Found) → option_or x None ≡ x
or_none None = refl
or_none (Some t) = refl

or_assoc : (x y z : Found) → option_or (option_or x y) z ≡ option_or x (option_or y z)
or_assoc None y z = refl
or_assoc (Some t) y z = refl

before_more : (wanted : Wanted) (bytes : List ℕ) (at : ℕ) → at < length bytes
    → trace_before (suc at) wanted bytes ≡ option_or (trace_before at wanted bytes) (trace_at wanted (drop at bytes))
before_more wanted [] at within = absurd (omega (arith, within))
before_more wanted (b ∷ []) zero within = or_none (trace_at wanted (b ∷ []))
before_more wanted (b ∷ c ∷ bytes) zero within = or_none (trace_at wanted (b ∷ c ∷ bytes))
before_more wanted (b ∷ bytes) (suc at) within =
    ap (option_or (trace_at wanted (b ∷ bytes))) (before_more wanted bytes at (omega (arith, within)))
    ∙ sym (or_assoc (trace_at wanted (b ∷ bytes)) (trace_before at wanted bytes) (trace_at wanted (drop at bytes)))

-- one place more, where there is none
pub still_none : (wanted : Wanted) (bytes : List ℕ) (at : ℕ) (found : Found) → at < length bytes → trace_before at wanted bytes ≡ None
    → found ≡ trace_at wanted (drop at bytes) → found ≡ None → trace_before (at + 1) wanted bytes ≡ None
still_none wanted bytes at found within none is nothing =
    let next : at + 1 ≡ suc at = omega arith in
    ap (λ (n : ℕ). trace_before n wanted bytes) next ∙ before_more wanted bytes at within
    ∙ ap (λ (x : Found). option_or x (trace_at wanted (drop at bytes))) none ∙ sym is ∙ nothing

-- the first one is at this place
pub first_at : (wanted : Wanted) (bytes : List ℕ) (at until : ℕ) (t : TraceState) → at < until → at < length bytes
    → trace_before at wanted bytes ≡ None → Some t ≡ trace_at wanted (drop at bytes) → Some t ≡ trace_before until wanted bytes
first_at wanted [] at until t low within none is = absurd (omega (arith, within))
first_at wanted (b ∷ bytes) at zero t low within none is = absurd (omega (arith, low))
first_at wanted (b ∷ bytes) zero (suc until) t low within none is = ap (λ (x : Found). option_or x (trace_before until wanted bytes)) is
first_at wanted (b ∷ bytes) (suc at) (suc until) t low within none is =
    go (trace_at wanted (b ∷ bytes)) none (λ rest. first_at wanted bytes at until t (omega (arith, low)) (omega (arith, within)) rest is)
  where
    go : (x : Found) → option_or x (trace_before at wanted bytes) ≡ None
        → (trace_before at wanted bytes ≡ None → Some t ≡ trace_before until wanted bytes) → Some t ≡ option_or x (trace_before until wanted bytes)
    go None nothing later = later nothing
    go (Some u) nothing later = absurd cc

-- ---- window by window

-- what is out of reach doesn't matter
near : (wanted : Wanted) (window rest : List ℕ) → reach ≤ length window → trace_at wanted (window ++ rest) ≡ trace_at wanted window
near wanted window rest long =
    ap (λ (t : List ℕ). option_and_then (trace_of wanted) (opened t)) (take-append-le reach window rest long)

search_on : (wanted : Wanted) (window rest : List ℕ) (until : ℕ) → until + reach ≤ length window
    → trace_in wanted (window ++ rest) ≡ option_or (trace_before until wanted window) (trace_in wanted (drop until window ++ rest))
search_on wanted [] rest until long = absurd (omega (arith, long))
search_on wanted (b ∷ window) rest zero long = refl
search_on wanted (b ∷ window) rest (suc until) long =
    ap (λ (x : Found). option_or x (trace_in wanted (window ++ rest))) (near wanted (b ∷ window) rest (omega (arith, long)))
    ∙ ap (option_or (trace_at wanted (b ∷ window))) (search_on wanted window rest until (omega (arith, long)))
    ∙ sym (or_assoc (trace_at wanted (b ∷ window)) (trace_before until wanted window) (trace_in wanted (drop until window ++ rest)))

search_all : (wanted : Wanted) (bytes : List ℕ) → trace_before (length bytes) wanted bytes ≡ trace_in wanted bytes
search_all wanted [] = refl
search_all wanted (b ∷ bytes) = ap (option_or (trace_at wanted (b ∷ bytes))) (search_all wanted bytes)

-- a file ended
pub last_window : (wanted : Wanted) (window front room rest more bytes : List ℕ) (len n : ℕ) (found : Found) → front ≡ take len window
    → len ≤ length window → n ≤ length room → rest ≡ take n room ++ more → more ≡ [] → bytes ≡ take (len + n) (front ++ room)
    → found ≡ trace_before (len + n) wanted bytes → found ≡ trace_in wanted (take len window ++ rest)
last_window wanted window front room rest more bytes len n found is within there split end taken finds =
    let joins = joined window front room rest more len n is within there split in
    let few : length front ≡ len = omega (arith, within, ap (λ (t : List ℕ). length t) is, length-take len window) in
    let count : len + n ≡ length bytes =
    omega (arith, few, there, ap (λ (t : List ℕ). length t) taken, length-take (len + n) (front ++ room), length-append front room) in
    finds ∙ ap (λ (k : ℕ). trace_before k wanted bytes) count ∙ search_all wanted bytes
    ∙ ap (trace_in wanted) (sym (joins ∙ ap (λ (t : List ℕ). t ++ more) (sym taken) ∙ ap (λ (t : List ℕ). bytes ++ t) end ∙ append-nil bytes))

-- a whole window's size
pub whole_length : (window front room : List ℕ) (len : ℕ) → length window ≡ 2 * reach → front ≡ take len window
    → length room ≡ length window - len → len ≤ reach → length (front ++ room) ≡ 2 * reach
whole_length window front room len long is lasts low =
    let few : length front ≡ len = omega (arith, long, low, ap (λ (t : List ℕ). length t) is, length-take len window) in
    omega (arith, few, lasts, long, low, length-append front room)

-- what a whole window and what follows it have together
pub whole_window : (window front room rest more : List ℕ) (len n : ℕ) → length window ≡ 2 * reach → front ≡ take len window
    → length room ≡ length window - len → n ≤ length room → 2 * reach ≤ len + n → len ≤ reach → rest ≡ take n room ++ more
    → (take len window ++ rest ≡ (front ++ room) ++ more) × (length (front ++ room) ≡ 2 * reach)
whole_window window front room rest more len n long is lasts there full low split =
    let joins = joined window front room rest more len n is (omega (arith, long, low)) there split in
    let size = whole_length window front room len long is lasts low in
    let whole : take (len + n) (front ++ room) ≡ front ++ room = take_all (len + n) (front ++ room) (omega (arith, size, full)) in
    (joins ∙ ap (λ (t : List ℕ). t ++ more) whole, size)

-- the first one is in the first half of a window
pub found_here : (wanted : Wanted) (window more : List ℕ) (found : Found) (t : TraceState) → length window ≡ 2 * reach
    → found ≡ trace_before reach wanted window → found ≡ Some t → found ≡ trace_in wanted (window ++ more)
found_here wanted window more found t long finds is =
    is ∙ ap (λ (x : Found). option_or x (trace_in wanted (drop reach window ++ more))) (sym is ∙ finds)
    ∙ sym (search_on wanted window more reach (omega (arith, long)))

-- a file goes on
pub next_window : (wanted : Wanted) (window more next : List ℕ) → length window ≡ 2 * reach → None ≡ trace_before reach wanted window
    → next ≡ copy_within window reach (2 * reach) 0 → trace_in wanted (window ++ more) ≡ trace_in wanted (take reach next ++ more)
next_window wanted window more next long none copied =
    search_on wanted window more reach (omega (arith, long))
    ∙ ap (λ (x : Found). option_or x (trace_in wanted (drop reach window ++ more))) (sym none)
    ∙ ap (λ (t : List ℕ). trace_in wanted (t ++ more)) (sym (moved reach window next long copied).0)
