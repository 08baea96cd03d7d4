-- Lists in which one element is changed.
use Rattle.std.proofs.Common.{◌≡◌, ℕ, zero, suc, List, [], ◌∷◌, length, set, Some, None, refl, sym, ◌∙◌, ap}
use Rattle.std.specs.Prelude.{slice_get}
use Rattle.tr_book.specs.Parts.{change_at}

module _ {X : Type 0} where
  -- the element at a place is changed by a write
  pub changed_at-set : (f : X → X) (i : ℕ) (xs : List X) (x y : X) → slice_get xs i ≡ Some x → y ≡ f x → set xs i y ≡ change_at i f xs
  changed_at-set f i [] x y at is = refl
  changed_at-set f zero (z ∷ xs) x y at is = let same : z ≡ x = cc in ap (λ (w : X). w ∷ xs) (is ∙ ap f (sym same))
  changed_at-set f (suc i) (z ∷ xs) x y at is = ap (λ (ys : List X). z ∷ ys) (changed_at-set f i xs x y at is)

  -- past the end nothing is changed
  pub changed_at-past : (f : X → X) (i : ℕ) (xs : List X) → slice_get xs i ≡ None → xs ≡ change_at i f xs
  changed_at-past f i [] past = refl
  changed_at-past f zero (x ∷ xs) past = cc
  changed_at-past f (suc i) (x ∷ xs) past = ap (λ (ys : List X). x ∷ ys) (changed_at-past f i xs past)

  pub length-changed_at : (f : X → X) (i : ℕ) (xs : List X) → length (change_at i f xs) ≡ length xs
  length-changed_at f i [] = refl
  length-changed_at f zero (x ∷ xs) = refl
  length-changed_at f (suc i) (x ∷ xs) = ap suc (length-changed_at f i xs)
