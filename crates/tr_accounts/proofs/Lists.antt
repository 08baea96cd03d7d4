-- What holds of each element.
use Rattle.std.proofs.Common.{◌≡◌, ℕ, zero, suc, List, [], ◌∷◌, ◌++◌, length, drop, Some, refl, arith}
use Rattle.std.specs.Prelude.{slice_get}
use Rattle.std.specs.List.{AllByRecursion, flat_map}

module _ {X : Type 0} where
  pub all-more : (P Q : X → Type 0) → ((x : X) → P x → Q x) → (xs : List X) → AllByRecursion P xs → AllByRecursion Q xs
  all-more P Q f [] h = tt
  all-more P Q f (x ∷ xs) h = (f x h.0, all-more P Q f xs h.1)

  pub all-both : (P : X → Type 0) (xs ys : List X) → AllByRecursion P xs → AllByRecursion P ys → AllByRecursion P (xs ++ ys)
  all-both P [] ys h k = k
  all-both P (x ∷ xs) ys h k = (h.0, all-both P xs ys h.1 k)

  pub all-front : (P : X → Type 0) (xs ys : List X) → AllByRecursion P (xs ++ ys) → AllByRecursion P xs
  all-front P [] ys h = tt
  all-front P (x ∷ xs) ys h = (h.0, all-front P xs ys h.1)

  pub all-back : (P : X → Type 0) (xs ys : List X) → AllByRecursion P (xs ++ ys) → AllByRecursion P ys
  all-back P [] ys h = h
  all-back P (x ∷ xs) ys h = all-back P xs ys h.1

  pub all-rest : (P : X → Type 0) (xs : List X) → AllByRecursion P xs → AllByRecursion P (drop 1 xs)
  all-rest P [] h = tt
  all-rest P (x ∷ xs) h = h.1

  pub get-front : (xs ys : List X) (k : ℕ) (x : X) → slice_get xs k ≡ Some x → slice_get (xs ++ ys) k ≡ Some x
  get-front [] ys k x e = absurd cc
  get-front (y ∷ xs) ys zero x e = e
  get-front (y ∷ xs) ys (suc k) x e = get-front xs ys k x e

  pub get-last : (xs : List X) (x : X) (n : ℕ) → n ≡ length xs → slice_get (xs ++ x ∷ []) n ≡ Some x
  get-last [] x zero e = refl
  get-last [] x (suc n) e = absurd (omega arith)
  get-last (y ∷ xs) x zero e = absurd (omega arith)
  get-last (y ∷ xs) x (suc n) e = get-last xs x n (omega arith)

module _ {X Y : Type 0} (P : Y → Type 0) (f : X → List Y) where
  -- of each element of each list
  pub all-nested : (xs : List X) → AllByRecursion P (flat_map f xs) → AllByRecursion (λ x. AllByRecursion P (f x)) xs
  all-nested [] h = tt
  all-nested (x ∷ xs) h = (all-front P (f x) (flat_map f xs) h, all-nested xs (all-back P (f x) (flat_map f xs) h))

  pub all-flat : (xs : List X) → AllByRecursion (λ x. AllByRecursion P (f x)) xs → AllByRecursion P (flat_map f xs)
  all-flat [] h = tt
  all-flat (x ∷ xs) h = all-both P (f x) (flat_map f xs) h.0 (all-flat xs h.1)
