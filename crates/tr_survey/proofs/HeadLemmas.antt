-- Lines that are added one after another.
use Rattle.std.proofs.Common.{◌≡◌, ◌+◌, ◌-◌, ◌<◌, ◌≤◌, ℕ, zero, suc, refl, sym, ap, ◌∙◌, arith, List, [], ◌∷◌, ◌++◌, length, map, drop, get_or, Option, false, append-nil, append_assoc, Bool, cond}
use Rattle.std.proofs.lemmas.List.{length-drop}
use Rattle.std.specs.Prelude.{codes}
use Rattle.std.specs.List.{zip}
use Rattle.tr_chunk.specs.Audit.{capped_count}
use Rattle.tr_survey.specs.Heads.{is_next, line_of_wrong, missing_below, wrong_between, wrong_in_order, wrong_metadata, wrong_streams, wrong_with}
use Rattle.tr_survey.specs.Lines.{archive_text}
use Rattle.tr_survey.specs.Listing.{key_of}
use Rattle.tr_survey.specs.Order.{Numbered}
use Rattle.tr_survey.specs.declared.names.Numbered as value
use Rattle.tr_survey.specs.declared.naming.Naming.{Naming}
use Rattle.tr_survey.proofs.PrefixLemmas.{from_place}

-- lines more, and then the rest
pub pushed : (old new line rest whole all : List (List ℕ)) → new ≡ old ++ line → whole ≡ line ++ rest → old ++ whole ≡ all
    → new ++ rest ≡ all
pushed old new line rest whole all is parts before =
    ap (λ (l : List (List ℕ)). l ++ rest) is ∙ append_assoc old line rest ∙ ap (λ (l : List (List ℕ)). old ++ l) (sym parts) ∙ before

pub pushed_all : (new whole all : List (List ℕ)) → whole ≡ [] → new ++ whole ≡ all → new ≡ all
pushed_all new whole all none before = sym (append-nil new) ∙ ap (λ (l : List (List ℕ)). new ++ l) (sym none) ∙ before

-- ---- one archive and the next

pub twice : (a b : Numbered) (n : ℕ) → n ≡ 0 → wrong_between a b n ≡ archive_text b.name (codes "number twice") ∷ []
twice a b n is = rw is refl

pub elsewhere : (a b : Numbered) (n : ℕ) → n ≡ 1 → is_next a b ≡ false → wrong_between a b n ≡ archive_text b.name (codes "begins elsewhere") ∷ []
elsewhere a b n is other = rw is (ap (λ (t : Bool). cond t [] (archive_text b.name (codes "begins elsewhere") ∷ [])) other)

pub order_step : (xs : List value.Numbered) (i : ℕ) (a b : value.Numbered) → 1 ≤ i → i < length xs → a ≡ get_or xs (i - 1) a → b ≡ get_or xs i b
    → wrong_in_order (map key_of (drop (i - 1) xs))
    ≡ wrong_between (key_of a) (key_of b) (b.number - a.number) ++ wrong_in_order (map key_of (drop (i + 1 - 1) xs))
order_step xs i a b some within is-a is-b =
    let before : i - 1 < length xs = omega arith in
    let here : i - 1 + 1 ≡ i = omega arith in
    let next : i + 1 - 1 ≡ i = omega arith in
    let at-b = from_place key_of xs i b within is-b in
    ap wrong_in_order (from_place key_of xs (i - 1) a before is-a
    ∙ ap (λ (n : ℕ). key_of a ∷ map key_of (drop n xs)) here
    ∙ ap (λ (l : List Numbered). key_of a ∷ l) at-b)
    ∙ ap (λ (l : List Numbered). wrong_between (key_of a) (key_of b) (b.number - a.number) ++ wrong_in_order l)
    (sym (ap (λ (n : ℕ). map key_of (drop n xs)) next ∙ at-b))

order_few : (ys : List value.Numbered) → length ys ≤ 1 → wrong_in_order (map key_of ys) ≡ []
order_few [] few = refl
order_few (y ∷ []) few = refl
order_few (y ∷ (z ∷ ys)) few = absurd (omega arith)

pub order_end : (xs : List value.Numbered) (i : ℕ) → length xs ≤ i → wrong_in_order (map key_of (drop (i - 1) xs)) ≡ []
order_end xs i past = order_few (drop (i - 1) xs) (let l = length-drop (i - 1) xs in omega (arith, past, l))

-- ---- an archive and its metadata

pub at_place : {A : Type 0} (xs : List A) (i : ℕ) (x : A) → i < length xs → x ≡ get_or xs i x → drop i xs ≡ x ∷ drop (i + 1) xs
at_place [] i x within is = absurd (omega arith)
at_place (y ∷ xs) zero x within is = ap (λ a. a ∷ xs) (sym is)
at_place (y ∷ xs) (suc i) x within is =
    let next : suc i + 1 ≡ suc (i + 1) = omega arith in
    let here : i < length xs = omega arith in
    at_place xs i x here is ∙ ap (λ (n : ℕ). x ∷ drop n (y ∷ xs)) (sym next)

pub metadata_step : (uuid : Option (List ℕ)) (xs : List value.Numbered) (ns : List Naming) (i : ℕ) (a : value.Numbered) (n : Naming) → i < length xs
    → i < length ns → a ≡ get_or xs i a → n ≡ get_or ns i n
    → wrong_metadata uuid (zip (map key_of (drop i xs)) (drop i ns))
    ≡ line_of_wrong (key_of a).name (wrong_with uuid n) ++ wrong_metadata uuid (zip (map key_of (drop (i + 1) xs)) (drop (i + 1) ns))
metadata_step uuid xs ns i a n within fits is-a is-n =
    ap (λ (l : List Numbered). wrong_metadata uuid (zip l (drop i ns))) (from_place key_of xs i a within is-a)
    ∙ ap (λ (l : List Naming). wrong_metadata uuid (zip (key_of a ∷ map key_of (drop (i + 1) xs)) l)) (at_place ns i n fits is-n)

none_from : {A : Type 0} (xs : List A) (i : ℕ) → length xs ≤ i → drop i xs ≡ []
none_from [] zero past = refl
none_from [] (suc i) past = refl
none_from (x ∷ xs) zero past = absurd (omega arith)
none_from (x ∷ xs) (suc i) past = none_from xs i (omega arith)

pub metadata_end : (uuid : Option (List ℕ)) (xs : List value.Numbered) (ns : List Naming) (i : ℕ) → length xs ≤ i
    → wrong_metadata uuid (zip (map key_of (drop i xs)) (drop i ns)) ≡ []
metadata_end uuid xs ns i past = ap (λ (l : List value.Numbered). wrong_metadata uuid (zip (map key_of l) (drop i ns))) (none_from xs i past)

-- ---- streams

pub streams_step : (xs : List value.Numbered) (next i : ℕ) (s : value.Numbered) → i < length xs → s ≡ get_or xs i s
    → wrong_streams next (map key_of (drop i xs))
    ≡ missing_below next s.number ++ wrong_streams (capped_count (s.number + 1)) (map key_of (drop (i + 1) xs))
streams_step xs next i s within is = ap (wrong_streams next) (from_place key_of xs i s within is)

pub streams_end : (xs : List value.Numbered) (next i : ℕ) → length xs ≤ i → wrong_streams next (map key_of (drop i xs)) ≡ []
streams_end xs next i past = ap (λ (l : List value.Numbered). wrong_streams next (map key_of l)) (none_from xs i past)
