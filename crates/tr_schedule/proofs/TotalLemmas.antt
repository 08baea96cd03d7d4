-- A sum that stops at a greatest number.
use Rattle.std.proofs.Common.{◌≡◌, ℕ, ◌+◌, List, [], ◌∷◌, min, sum, arith}
use Rattle.std.specs.List.{fold}

-- a sum that stops at each step is the whole sum, stopped once
stopped_from : (most a b : ℕ) (xs : List ℕ) → a ≡ min b most → fold (λ n x. min (n + x) most) a xs ≡ min (fold (λ n x. n + x) b xs) most
stopped_from most a b [] e = e
stopped_from most a b (x ∷ xs) e =
    let next : min (a + x) most ≡ min (b + x) most = omega (arith, e) in
    stopped_from most (min (a + x) most) (b + x) xs next

pub stopped_sum : (most : ℕ) (xs : List ℕ) → fold (λ n x. min (n + x) most) 0 xs ≡ min (sum xs) most
stopped_sum most xs = let e : 0 ≡ min 0 most = omega arith in stopped_from most 0 0 xs e
