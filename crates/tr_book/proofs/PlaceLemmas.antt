-- The place of a serial's part, by a search among serials that rise.
use Rattle.std.proofs.Common.{◌≡◌, ℕ, ◌+◌, ◌≤◌, zero, suc, Bool, true, false, cond, leb, List, [], ◌∷◌, length, refl, sym, ◌∙◌, ap, arith}
use Rattle.std.proofs.lemmas.Grind.{common_steps}
use Rattle.std.specs.List.Sorted.{IsPartitionPoint}
use Rattle.tr_book.specs.Parts.{place_in}

-- where the answers turn is how many there are before
pub place-is : (n : ℕ) (starts : List ℕ) (i : ℕ) → i ≤ length starts
    → IsPartitionPoint (λ s. leb s n ≡ true) (λ s. leb s n ≡ false) starts i → i ≡ place_in n starts
place-is n [] zero within point = refl
place-is n [] (suc i) within point = absurd (omega (arith, within))
place-is n (s ∷ starts) zero within point =
    let after : leb s n ≡ false = point.1 0 0 (omega arith) (grind (arith, common_steps)) in
    sym (ap (λ (b : Bool). cond b (place_in n starts + 1) 0) after)
place-is n (s ∷ starts) (suc i) within point =
    let before : leb s n ≡ true = point.0 0 0 (omega arith) (omega arith) in
    let more : i ≡ place_in n starts =
    place-is n starts i (grind (arith, common_steps, within)) (
      λ k d low high. point.0 (suc k) d (omega arith) (omega (arith, high)),
      λ k d low high. point.1 (suc k) d (omega (arith, low)) (grind (arith, common_steps, high)),
    ) in
    omega (arith, more) ∙ sym (ap (λ (b : Bool). cond b (place_in n starts + 1) 0) before)
