-- Numbered keys that come in order stay so in a set, each once.
use Rattle.std.proofs.Common.{◌≡◌, ◌∙◌, ◌<◌, ◌+◌, ℕ, zero, suc, refl, sym, ap, subst, arith, List, [], ◌∷◌, ◌++◌, length, map, Some, append_assoc, append-nil}
use Rattle.std.proofs.lemmas.Grind.{common_steps}
use Rattle.std.specs.BTreeSet.{insert_key}
use Rattle.std.specs.Ordering.{match_ordering, nat_cmp, ordering_then}
use Rattle.std.specs.Prelude.{slice_get}
use Rattle.std.specs.declared.cmp.Ordering.{Ordering}
use Rattle.std.specs.declared.cmp.Ordering.TheVariants.{Equal, Greater}
use Rattle.tr_survey.specs.Listing.{with_keys}
use Rattle.tr_survey.specs.Order.{Numbered, name_cmp, number_cmp}

-- numbered from this number on
abbrev pub Numbers : ℕ → List Numbered → Type 0
Numbers k [] = Unit {0}
Numbers k (x ∷ xs) = (x.number ≡ k) × Numbers (k + 1) xs

above : (a b : ℕ) → b < a → nat_cmp a b ≡ Greater
above a b gt = grind (arith, common_steps, gt)

same : (a : ℕ) → nat_cmp a a ≡ Equal
same a = grind (arith, common_steps)

pub same-text : (name : List ℕ) → name_cmp name name ≡ Equal
same-text [] = refl
same-text (b ∷ name) = ap (λ (o : Ordering). ordering_then o (name_cmp name name)) (same b) ∙ same-text name

is-above : (a b : Numbered) → b.number < a.number → number_cmp a b ≡ Greater
is-above a b gt = ap (λ (o : Ordering). ordering_then o (name_cmp a.name b.name)) (above a.number b.number gt)

is-same : (a : Numbered) → number_cmp a a ≡ Equal
is-same a = ap (λ (o : Ordering). ordering_then o (name_cmp a.name a.name)) (same a.number) ∙ same-text a.name

-- past one of a lesser number
past : (x k : Numbered) (xs : List Numbered) → x.number < k.number → insert_key number_cmp (x ∷ xs) k ≡ x ∷ insert_key number_cmp xs k
past x k xs lt =
    ap (λ (o : Ordering). match_ordering o (k ∷ x ∷ xs) (x ∷ xs) (x ∷ insert_key number_cmp xs k)) (is-above k x lt)

-- the next one goes last
next-last : (j : ℕ) (xs : List Numbered) (k : Numbered) → Numbers j xs → k.number ≡ j + length xs → insert_key number_cmp xs k ≡ xs ++ k ∷ []
next-last j [] k are next = refl
next-last j (x ∷ xs) k are next =
    past x k xs (omega (arith, are.0, next))
    ∙ ap (λ (l : List Numbered). x ∷ l) (next-last (j + 1) xs k are.1 (omega (arith, next)))

-- where it is in its place already
number-at : (j i : ℕ) (xs : List Numbered) (k : Numbered) → Numbers j xs → slice_get xs i ≡ Some k → k.number ≡ j + i
number-at j i [] k are at = absurd cc
number-at j zero (x ∷ xs) k are at = let here : x ≡ k = cc in omega (arith, are.0, ap (λ (n : Numbered). n.number) here)
number-at j (suc i) (x ∷ xs) k are at = omega (arith, number-at (j + 1) i xs k are.1 at)

known : (j i : ℕ) (xs : List Numbered) (k : Numbered) → Numbers j xs → slice_get xs i ≡ Some k → insert_key number_cmp xs k ≡ xs
known j i [] k are at = absurd cc
known j zero (x ∷ xs) k are at =
    let here : k ≡ x = cc in
    subst (λ (n : Numbered). insert_key number_cmp (x ∷ xs) n ≡ x ∷ xs) (sym here)
    (ap (λ (o : Ordering). match_ordering o (x ∷ x ∷ xs) (x ∷ xs) (x ∷ insert_key number_cmp xs x)) (is-same x))
known j (suc i) (x ∷ xs) k are at =
    past x k xs (omega (arith, are.0, number-at (j + 1) i xs k are.1 at))
    ∙ ap (λ (l : List Numbered). x ∷ l) (known (j + 1) i xs k are.1 at)

-- ---- several keys

place-of : (front : List Numbered) (k : Numbered) (rest : List Numbered) → slice_get (front ++ k ∷ rest) (length front) ≡ Some k
place-of [] k rest = refl
place-of (x ∷ front) k rest = place-of front k rest

first-numbers : (j : ℕ) (front rest : List Numbered) → Numbers j (front ++ rest) → Numbers j front
first-numbers j [] rest are = tt
first-numbers j (x ∷ front) rest are = (are.0, first-numbers (j + 1) front rest are.1)

next-number : (j : ℕ) (front : List Numbered) (k : Numbered) (rest : List Numbered) → Numbers j (front ++ k ∷ rest) → k.number ≡ j + length front
next-number j front k rest are = number-at j (length front) (front ++ k ∷ rest) k are (place-of front k rest)

-- the next one, as often as it comes
pub as-often : {X : Type 0} (xs : List Numbered) (k : Numbered) (m : X) (ms : List X) → Numbers 0 (xs ++ k ∷ [])
    → with_keys xs (map (λ (x : X). k) (m ∷ ms)) ≡ xs ++ k ∷ []
as-often {X = X} xs k m ms are =
    ap (λ (l : List Numbered). with_keys l (map (λ (x : X). k) ms))
    (next-last 0 xs k (first-numbers 0 xs (k ∷ []) are) (next-number 0 xs k [] are))
    ∙ again ms
  where
    again : (ms : List X) → with_keys (xs ++ k ∷ []) (map (λ (x : X). k) ms) ≡ xs ++ k ∷ []
    again [] = refl
    again (m ∷ ms) =
        ap (λ (l : List Numbered). with_keys l (map (λ (x : X). k) ms)) (known 0 (length xs) (xs ++ k ∷ []) k are (place-of xs k []))
        ∙ again ms

-- all of them, after those before
pub in-order : (xs ks : List Numbered) → Numbers 0 (xs ++ ks) → with_keys xs ks ≡ xs ++ ks
in-order xs [] are = sym (append-nil xs)
in-order xs (k ∷ ks) are =
    ap (λ (l : List Numbered). with_keys l ks) (next-last 0 xs k (first-numbers 0 xs (k ∷ ks) are) (next-number 0 xs k ks are))
    ∙ in-order (xs ++ k ∷ []) ks (subst (Numbers 0) (sym (append_assoc xs (k ∷ []) ks)) are)
    ∙ append_assoc xs (k ∷ []) ks
