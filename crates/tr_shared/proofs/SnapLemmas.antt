-- Streams that are shown one after another.
use Rattle.std.proofs.Common.{◌≡◌, ◌⊎◌, ℕ, ◌+◌, zero, suc, List, [], ◌∷◌, ◌++◌, Some, inl, inr, length, arith, refl, subst, sym, ⊎_elim}
use Rattle.std.specs.Prelude.{slice_get}
use Rattle.std.proofs.lemmas.Grind.{common_steps}
use Rattle.tr_book.specs.Snaps.{SnapState}
use Rattle.tr_seats.specs.Books.{PlanState}
use Rattle.tr_seats.specs.Slots.{ProducerState}
use Rattle.tr_shared.specs.Shown.{AreShown, IsShown, IsShownWith, OwnIsShown}

-- what a list has after one more was pushed
pushed : (xs : List SnapState) (x y : SnapState) (i : ℕ) → slice_get (xs ++ x ∷ []) i ≡ Some y
    → (slice_get xs i ≡ Some y) ⊎ ((i ≡ length xs) × (x ≡ y))
pushed [] x y zero got = inr (refl, cc)
pushed [] x y (suc i) got = cc
pushed (z ∷ zs) x y zero got = inl got
pushed (z ∷ zs) x y (suc i) got =
    let count : length (z ∷ zs) ≡ length zs + 1 = grind (arith, common_steps) in
    ⊎_elim (λ (t : slice_get zs i ≡ Some y). inl t) (λ (t : (i ≡ length zs) × (x ≡ y)). inr (omega (arith, count, t.0), t.1))
    (pushed zs x y i got)

pub shown-more : (plan : PlanState) (moment : ℕ) (xs : List SnapState) (x : SnapState) → AreShown plan moment xs
    → IsShown plan moment (length xs) x → AreShown plan moment (xs ++ x ∷ [])
shown-more plan moment xs x all is i snap got =
    ⊎_elim (λ (t : slice_get xs i ≡ Some snap). all i snap t)
    (λ (t : (i ≡ length xs) × (x ≡ snap)).
    subst (λ (j : ℕ). IsShown plan moment j snap) (sym t.0) (subst (λ (s : SnapState). IsShown plan moment (length xs) s) t.1 is))
    (pushed xs x snap i got)

pub own-more : (plan : PlanState) (moment : ℕ) (p : ProducerState) (xs : List SnapState) (x : SnapState)
    → OwnIsShown plan moment p xs → (p.number ≡ length xs → IsShownWith plan moment p x) → OwnIsShown plan moment p (xs ++ x ∷ [])
own-more plan moment p xs x own is snap got =
    ⊎_elim (λ (t : slice_get xs p.number ≡ Some snap). own snap t)
    (λ (t : (p.number ≡ length xs) × (x ≡ snap)). subst (λ (s : SnapState). IsShownWith plan moment p s) t.1 (is t.0))
    (pushed xs x snap p.number got)
