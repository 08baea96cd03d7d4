-- Lists in which one element is changed, or one after another.
use Rattle.std.proofs.Common.{◌≡◌, ℕ, ◌+◌, ◌<◌, zero, suc, List, [], ◌∷◌, ◌++◌, length, map, take, drop, Some, None, refl, ◌∙◌, ap, arith}
use Rattle.std.proofs.lemmas.Option.{slice_get_past, slice_get_read}
use Rattle.std.specs.Borrow.{MutBor}
use Rattle.std.specs.List.{IsItemAtMut}
use Rattle.std.specs.Prelude.{slice_get}
use Rattle.tr_session.specs.Steps.{change_at}

module _ {X : Type 0} where
  pub lent-some : (xs : List X) (i : ℕ) (x : MutBor X) → IsItemAtMut xs i (Some x) → slice_get xs i ≡ Some x.now
  lent-some xs i x is = slice_get_read xs (length xs) i x.now refl (is.3).0 is.1

  pub lent-none : (xs : List X) (i : ℕ) → IsItemAtMut xs i None → slice_get xs i ≡ None
  lent-none xs i is = slice_get_past xs i is.3

  -- the elements before a place are changed
  abbrev pub changed_before : ℕ → (X → X) → List X → List X
  changed_before i f xs = map f (take i xs) ++ drop i xs

  pub changed-next : (f : X → X) (i : ℕ) (xs : List X) → i < length xs → change_at i f (changed_before i f xs) ≡ changed_before (suc i) f xs
  changed-next f i [] within = absurd (omega (arith, within))
  changed-next f zero (x ∷ xs) within = refl
  changed-next f (suc i) (x ∷ xs) within = ap (λ (ys : List X). f x ∷ ys) (changed-next f i xs (omega (arith, within)))

  -- and the next one
  pub changed_before-more : (f : X → X) (i : ℕ) (xs now next : List X) → i < length xs → now ≡ changed_before i f xs
      → next ≡ change_at i f now → next ≡ changed_before (i + 1) f xs
  changed_before-more f i xs now next within so is =
      let one : suc i ≡ i + 1 = omega arith in
      is ∙ ap (change_at i f) so ∙ changed-next f i xs within ∙ ap (λ (n : ℕ). changed_before n f xs) one

  -- and all of them
  pub changed_before-all : (f : X → X) (n : ℕ) (xs : List X) → n ≡ length xs → changed_before n f xs ≡ map f xs
  changed_before-all f n xs is = ap (λ (k : ℕ). changed_before k f xs) is ∙ go xs
    where
      go : (ys : List X) → changed_before (length ys) f ys ≡ map f ys
      go [] = refl
      go (y ∷ ys) = ap (λ (zs : List X). f y ∷ zs) (go ys)
