-- Where each number below n is that of just one element, a sum over the elements is a sum over the numbers.
use Rattle.std.proofs.Common.{◌≡◌, ◌≢◌, ℕ, zero, suc, ◌+◌, ◌*◌, ◌<◌, List, [], ◌∷◌, length, get_or, cond, true, false, eqb, ⊎_elim, refl, sym, ap, ◌∙◌, subst, arith}
use Rattle.std.specs.Prelude.{count_by, ◌==◌}
use Rattle.std.specs.List.{sum_by}
use Rattle.std.proofs.lemmas.List.Sums.{sum_by-cons}
use Rattle.std.proofs.lemmas.Bool.Decides.{nat_tests, eqb_tells}

-- f 0 + .. + f (n - 1)
abbrev pub sum_below : (ℕ → ℕ) → ℕ → ℕ
sum_below f zero = 0
sum_below f (suc n) = sum_below f n + f n

pub below-same : (f h : ℕ → ℕ) (n : ℕ) → ((i : ℕ) → i < n → f i ≡ h i) → sum_below f n ≡ sum_below h n
below-same f h zero e = refl
below-same f h (suc n) e = omega (arith, below-same f h n (λ i lt. e i (omega arith)), e n (omega arith))

below-add : (f h : ℕ → ℕ) (n : ℕ) → sum_below (λ i. f i + h i) n ≡ sum_below f n + sum_below h n
below-add f h zero = refl
below-add f h (suc n) = omega (arith, below-add f h n)

below-none : (f : ℕ → ℕ) (n : ℕ) → ((i : ℕ) → i < n → f i ≡ 0) → sum_below f n ≡ 0
below-none f zero e = refl
below-none f (suc n) e = omega (arith, below-none f n (λ i lt. e i (omega arith)), e n (omega arith))

below-front : (f : ℕ → ℕ) (n : ℕ) → sum_below f (suc n) ≡ f 0 + sum_below (λ i. f (suc i)) n
below-front f zero = omega arith
below-front f (suc n) = omega (arith, below-front f n)

abbrev once : ℕ → (ℕ → ℕ) → ℕ → ℕ
once x f i = cond (eqb x i) 1 0 * f i

once-here : (x : ℕ) (f : ℕ → ℕ) → once x f x ≡ f x
once-here x f = grind (arith, nat_tests)

once-else : (x : ℕ) (f : ℕ → ℕ) (i : ℕ) → x ≢ i → once x f i ≡ 0
once-else x f i ne = grind (arith, nat_tests)

below-once : (x : ℕ) (f : ℕ → ℕ) (n : ℕ) → x < n → sum_below (once x f) n ≡ f x
below-once x f zero lt = absurd (omega arith)
below-once x f (suc n) lt =
    ⊎_elim
    (λ (t : (eqb x n ≡ true) × (x ≡ n)).
    let none : sum_below (once x f) n ≡ 0 = below-none (once x f) n (λ i below. once-else x f i (λ e. omega (arith, t.1, e, below))) in
    let here : once x f n ≡ f x = subst (λ k. once x f k ≡ f x) t.1 (once-here x f) in
    omega (arith, none, here))
    (λ (t : (eqb x n ≡ false) × (x ≢ n)).
    let ne = t.1 in
    let earlier : x < n = omega arith in
    omega (arith, below-once x f n earlier, once-else x f n ne))
    (eqb_tells x n)

distribute : (a b c : ℕ) → (a + b) * c ≡ a * c + b * c
distribute a b c = omega arith

module _ {X : Type 0} (number : X → ℕ) where
  abbrev pub count_at : List X → ℕ → ℕ
  count_at xs i = count_by (λ x. number x == i) xs

  -- the numbers of all elements are below n
  abbrev AreBelow : ℕ → List X → Type 0
  AreBelow n xs = (k : ℕ) (d : X) → k < length xs → number (get_or xs k d) < n

  spread : (f : ℕ → ℕ) (n : ℕ) (xs : List X) → AreBelow n xs
      → sum_by (λ x. f (number x)) xs ≡ sum_below (λ i. count_at xs i * f i) n
  spread f n [] below = sym (below-none (λ i. count_at [] i * f i) n (λ i lt. omega arith))
  spread f n (x ∷ xs) below =
      let rest = spread f n xs (λ k d lt. below (suc k) d (omega arith)) in
      let here = below-once (number x) f n (below 0 x (omega arith)) in
      let each : (i : ℕ) → i < n → count_at (x ∷ xs) i * f i ≡ once (number x) f i + count_at xs i * f i =
      λ i lt. ap (λ n. n * f i) (sum_by-cons (λ (y : X). cond (number y == i) 1 0) x xs)
      ∙ distribute (cond (eqb (number x) i) 1 0) (count_at xs i) (f i) in
      sum_by-cons (λ y. f (number y)) x xs ∙ (λ k. sym here k + rest k)
      ∙ sym (below-add (once (number x) f) (λ i. count_at xs i * f i) n)
      ∙ sym (below-same (λ i. count_at (x ∷ xs) i * f i) (λ i. once (number x) f i + count_at xs i * f i) n each)

  pub one-each : (f : ℕ → ℕ) (n : ℕ) (xs : List X) → ((k : ℕ) (d : X) → k < length xs → number (get_or xs k d) < n)
      → ((i : ℕ) → i < n → count_at xs i ≡ 1) → sum_by (λ x. f (number x)) xs ≡ sum_below f n
  one-each f n xs below once_each =
      spread f n xs below ∙ below-same (λ i. count_at xs i * f i) f n (λ i lt. ap (λ c. c * f i) (once_each i lt) ∙ omega arith)

pub sum_by-index : {X : Type 0} → (f : X → ℕ) (xs : List X) (d : X) → sum_below (λ i. f (get_or xs i d)) (length xs) ≡ sum_by f xs
sum_by-index f [] d = refl
sum_by-index f (x ∷ xs) d =
    below-front (λ i. f (get_or (x ∷ xs) i d)) (length xs) ∙ ap (λ n. f x + n) (sum_by-index f xs d) ∙ sym (sum_by-cons f x xs)

pub sum_by-same : {X : Type 0} → (f h : X → ℕ) (xs : List X)
    → ((k : ℕ) (d : X) → k < length xs → f (get_or xs k d) ≡ h (get_or xs k d)) → sum_by f xs ≡ sum_by h xs
sum_by-same f h [] same = refl
sum_by-same f h (x ∷ xs) same =
    sum_by-cons f x xs ∙ (λ k. same 0 x (omega arith) k + sum_by-same f h xs (λ j d lt. same (suc j) d (omega arith)) k)
    ∙ sym (sum_by-cons h x xs)

-- two lists beside each other
pub sum_by-beside : {X Y : Type 0} → (f : X → ℕ) (h : Y → ℕ) (xs : List X) (ys : List Y) → length xs ≡ length ys
    → ((k : ℕ) (d : X) (e : Y) → k < length xs → f (get_or xs k d) ≡ h (get_or ys k e)) → sum_by f xs ≡ sum_by h ys
sum_by-beside f h [] [] len same = refl
sum_by-beside f h [] (y ∷ ys) len same = absurd (omega arith)
sum_by-beside f h (x ∷ xs) [] len same = absurd (omega arith)
sum_by-beside f h (x ∷ xs) (y ∷ ys) len same =
    let rest = sum_by-beside f h xs ys (omega arith) (λ j d e lt. same (suc j) d e (omega arith)) in
    sum_by-cons f x xs ∙ (λ k. same 0 x y (omega arith) k + rest k) ∙ sym (sum_by-cons h y ys)
