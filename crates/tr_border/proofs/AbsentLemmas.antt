-- A sum of runs' lengths that stops at a greatest number.
use Rattle.std.proofs.Common.{◌≡◌, ℕ, ◌+◌, List, [], ◌∷◌, map, min, sum, arith}
use Rattle.std.specs.List.{fold}

-- each step stops as the whole does
stopped_after : (most a b : ℕ) (gaps : List (ℕ × ℕ)) → a ≡ min b most
    → fold (λ (n : ℕ) (gap : ℕ × ℕ). min (n + gap.1) most) a gaps ≡ min (fold (λ n x. n + x) b (map (λ (gap : ℕ × ℕ). gap.1) gaps)) most
stopped_after most a b [] e = e
stopped_after most a b (gap ∷ gaps) e =
    let next : min (a + gap.1) most ≡ min (b + gap.1) most = omega (arith, e) in
    stopped_after most (min (a + gap.1) most) (b + gap.1) gaps next

pub stopped_lengths : (most : ℕ) (gaps : List (ℕ × ℕ))
    → fold (λ (n : ℕ) (gap : ℕ × ℕ). min (n + gap.1) most) 0 gaps ≡ min (sum (map (λ (gap : ℕ × ℕ). gap.1) gaps)) most
stopped_lengths most gaps = let e : 0 ≡ min 0 most = omega arith in stopped_after most 0 0 gaps e
