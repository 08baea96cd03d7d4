-- Among elements whose numbers are below n, and of which no two have the same one, n have each number once.
use Rattle.std.proofs.Common.{◌≡◌, ◌≢◌, ℕ, zero, suc, ◌+◌, ◌<◌, ◌≤◌, List, [], ◌∷◌, length, get_or, cond, true, false, eqb, ⊎_elim, refl, sym, subst, arith}
use Rattle.std.specs.Prelude.{count_by, ◌==◌}
use Rattle.std.proofs.lemmas.List.Sums.{sum_by-cons}
use Rattle.std.proofs.lemmas.Bool.Decides.{nat_tests, eqb_tells}

module _ {X : Type 0} (number : X → ℕ) where
  abbrev count_at : List X → ℕ → ℕ
  count_at xs i = count_by (λ x. number x == i) xs

  abbrev counted : X → ℕ → ℕ
  counted x i = cond (eqb (number x) i) 1 0

  -- how many have a number below n
  abbrev below : ℕ → List X → ℕ
  below zero xs = 0
  below (suc n) xs = below n xs + count_at xs n

  none-below : (n : ℕ) → below n [] ≡ 0
  none-below zero = refl
  none-below (suc n) = omega (arith, none-below n)

  count-cons : (x : X) (xs : List X) (i : ℕ) → count_at (x ∷ xs) i ≡ counted x i + count_at xs i
  count-cons x xs i = sum_by-cons (λ (y : X). cond (number y == i) 1 0) x xs

  -- one that isn't below n doesn't count, and one that is counts once
  above-cons : (n : ℕ) (x : X) (xs : List X) → n ≤ number x → below n (x ∷ xs) ≡ below n xs
  above-cons zero x xs le = refl
  above-cons (suc n) x xs le =
      let other : counted x n ≡ 0 = grind (arith, nat_tests, le) in
      omega (arith, above-cons n x xs (omega arith), count-cons x xs n, other)

  below-cons : (n : ℕ) (x : X) (xs : List X) → number x < n → below n (x ∷ xs) ≡ 1 + below n xs
  below-cons zero x xs lt = absurd (omega arith)
  below-cons (suc n) x xs lt =
      ⊎_elim
      (λ (t : (eqb (number x) n ≡ true) × (number x ≡ n)).
      let here : counted x n ≡ 1 = grind (arith, nat_tests, t.0) in
      omega (arith, above-cons n x xs (omega (arith, t.1)), count-cons x xs n, here))
      (λ (t : (eqb (number x) n ≡ false) × (number x ≢ n)).
      let other : counted x n ≡ 0 = grind (arith, nat_tests, t.0) in
      let ne = t.1 in
      let earlier : number x < n = omega arith in
      omega (arith, below-cons n x xs earlier, count-cons x xs n, other))
      (eqb_tells (number x) n)

  all-below : (n : ℕ) (xs : List X) → ((k : ℕ) (d : X) → k < length xs → number (get_or xs k d) < n) → below n xs ≡ length xs
  all-below n [] each = none-below n
  all-below n (x ∷ xs) each =
      omega (arith, below-cons n x xs (each 0 x (omega arith)), all-below n xs (λ k d lt. each (suc k) d (omega arith)))

  few-below : (n : ℕ) (xs : List X) → ((i : ℕ) → count_at xs i ≤ 1) → below n xs ≤ n
  few-below zero xs apart = omega arith
  few-below (suc n) xs apart = omega (arith, few-below n xs apart, apart n)

  fewer-below : (n : ℕ) (xs : List X) (i : ℕ) → ((i : ℕ) → count_at xs i ≤ 1) → i < n → below n xs + 1 ≤ n + count_at xs i
  fewer-below zero xs i apart lt = absurd (omega arith)
  fewer-below (suc n) xs i apart lt =
      ⊎_elim
      (λ (t : (eqb i n ≡ true) × (i ≡ n)).
      subst (λ j. below (suc n) xs + 1 ≤ suc n + count_at xs j) (sym t.1) (omega (arith, few-below n xs apart)))
      (λ (t : (eqb i n ≡ false) × (i ≢ n)).
      let ne = t.1 in
      let earlier : i < n = omega arith in
      omega (arith, fewer-below n xs i apart earlier, apart n))
      (eqb_tells i n)

  pub each-once : (n : ℕ) (xs : List X) → length xs ≡ n → ((k : ℕ) (d : X) → k < length xs → number (get_or xs k d) < n)
      → ((i : ℕ) → count_at xs i ≤ 1) → (i : ℕ) → i < n → count_at xs i ≡ 1
  each-once n xs many each apart i lt = omega (arith, many, all-below n xs each, fewer-below n xs i apart lt, apart i)
