-- The elements that a loop still has before it.
use Rattle.std.proofs.Common.{◌≡◌, ℕ, ◌+◌, zero, suc, List, [], ◌∷◌, Some, drop, length, refl, ap, arith}
use Rattle.std.proofs.lemmas.Grind.{common_steps}
use Rattle.std.specs.Prelude.{slice_get}

module _ {X : Type 0} where
  pub drop-got : (xs : List X) (i : ℕ) (x : X) → slice_get xs i ≡ Some x → drop i xs ≡ x ∷ drop (i + 1) xs
  drop-got [] i x got = cc
  drop-got (y ∷ xs) zero x got = let e : y ≡ x = cc in ap (λ (z : X). z ∷ xs) e
  drop-got (y ∷ xs) (suc i) x got = grind (arith, common_steps, drop-got xs i x got)

  pub drop-all : (xs : List X) (i : ℕ) → i ≡ length xs → drop i xs ≡ []
  drop-all xs i end = rw end (all xs)
    where
      all : (xs : List X) → drop (length xs) xs ≡ []
      all [] = refl
      all (x ∷ xs) = grind (arith, common_steps, all xs)
