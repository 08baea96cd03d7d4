-- Sums over a list, one element of which is known.
use Rattle.std.proofs.Common.{◌≡◌, ℕ, zero, suc, ◌+◌, ◌≤◌, List, [], ◌∷◌, set, sym, ap, subst, arith}
use Rattle.std.specs.List.{sum_by, All}
use Rattle.std.proofs.lemmas.List.Sums.{sum_by-cons}
use Rattle.std.proofs.lemmas.List.Elements.{All-head, All-tail}
use mathlib.Core.Option.{some, some-injective, some-ne-none}
use lib.ListN.{get_elem?}

module _ {A : Type 0} where
  pub sum_at : (f : A → ℕ) (l : List A) (i : ℕ) (a b : A) → get_elem? l i ≡ some a → sum_by f (set l i b) + f a ≡ sum_by f l + f b
  sum_at f [] i a b e = absurd (some-ne-none a (sym e))
  sum_at f (x ∷ xs) zero a b e = omega (arith, sum_by-cons f x xs, sum_by-cons f b xs, ap f (some-injective x a e))
  sum_at f (x ∷ xs) (suc i) a b e = omega (arith, sum_by-cons f x xs, sum_by-cons f x (set xs i b), sum_at f xs i a b e)

  pub all_at : (P : A → Type 0) (l : List A) (i : ℕ) (a : A) → get_elem? l i ≡ some a → All P l → P a
  all_at P [] i a e h = absurd (some-ne-none a (sym e))
  all_at P (x ∷ xs) zero a e h = subst P (some-injective x a e) (All-head P x xs h)
  all_at P (x ∷ xs) (suc i) a e h = all_at P xs i a e (All-tail P x xs h)

  pub sum_holds : (f : A → ℕ) (l : List A) (i : ℕ) (a : A) → get_elem? l i ≡ some a → f a ≤ sum_by f l
  sum_holds f [] i a e = absurd (some-ne-none a (sym e))
  sum_holds f (x ∷ xs) zero a e = omega (arith, sum_by-cons f x xs, ap f (some-injective x a e))
  sum_holds f (x ∷ xs) (suc i) a e = omega (arith, sum_by-cons f x xs, sum_holds f xs i a e)

  abbrev pub Follows : (A → ℕ) → (A → ℕ) → A → Type 0
  Follows h f x = h x ≡ 0 → f x ≡ 0

  sum_none : (h f : A → ℕ) (l : List A) → All (Follows h f) l → sum_by h l ≡ 0 → sum_by f l ≡ 0
  sum_none h f [] none e = omega arith
  sum_none h f (x ∷ xs) none e =
      let p = sum_by-cons h x xs in
      let here : h x ≡ 0 = omega arith in
      let rest : sum_by h xs ≡ 0 = omega arith in
      omega (arith, sum_by-cons f x xs, All-head (Follows h f) x xs none here, sum_none h f xs (All-tail (Follows h f) x xs none) rest)

  -- if an element has the whole sum of h, and f is 0 if h is, it has the whole sum of f
  pub sum_only : (h f : A → ℕ) (l : List A) (i : ℕ) (a : A) → get_elem? l i ≡ some a → All (Follows h f) l → sum_by h l ≡ h a → sum_by f l ≡ f a
  sum_only h f [] i a at none e = absurd (some-ne-none a (sym at))
  sum_only h f (x ∷ xs) zero a at none e =
      let p = sum_by-cons h x xs in
      let same = some-injective x a at in
      let eh = ap h same in
      let rest : sum_by h xs ≡ 0 = omega arith in
      omega (arith, sum_by-cons f x xs, ap f same, sum_none h f xs (All-tail (Follows h f) x xs none) rest)
  sum_only h f (x ∷ xs) (suc i) a at none e =
      let p = sum_by-cons h x xs in
      let q = sum_holds h xs i a at in
      let here : h x ≡ 0 = omega arith in
      let rest : sum_by h xs ≡ h a = omega arith in
      omega (arith, sum_by-cons f x xs, All-head (Follows h f) x xs none here, sum_only h f xs i a at (All-tail (Follows h f) x xs none) rest)
