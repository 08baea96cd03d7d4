-- Threads that are joined, the last first.
use Rattle.std.proofs.Common.{◌≡◌, ℕ, ◌+◌, ◌-◌, ◌<◌, ◌≤◌, List, [], ◌∷◌, ◌++◌, ◌&&◌, length, get_or, refl, true≢false, ⊎_elim, sym, subst, arith, inl, inr, Bool, true, false}
use Rattle.std.proofs.lemmas.List.{get_or_push, get_or_append_left}
use Rattle.std.proofs.lemmas.Bool.{cases_lt}
use Rattle.tr_threads.specs.Pools.{IsKeptOr}
use Rattle.tr_threads.specs.Threads.{DidIfBegun}

-- what holds of each thread from number m on and of its seat, which comes after the first ones, the last thread's first
abbrev pub AreJoined : {H S : Type 0} → (H → S → Type 0) → List H → List S → (first n m : ℕ) → Type 0
AreJoined {H} {S} R handles seats first n m = (j : ℕ) (h : H) (s : S) → m ≤ j → j < n → R (get_or handles j h) (get_or seats (first + (n - 1 - j)) s)

pub joins_one : {H S : Type 0} {R Q : H → S → Type 0} (handles : List H) (seats : List S) (x : S) (first n m : ℕ)
    → (length seats + (m + 1) ≡ first + n) → m < n → ((h : H) (s : S) → R h s → Q h s)
    → AreJoined R handles seats first n (m + 1) → ((h : H) → Q (get_or handles m h) x)
    → AreJoined Q handles (seats ++ x ∷ []) first n m
joins_one {H} {S} {R} {Q} handles seats x first n m len low weaker before here j h s from below =
    ⊎_elim
    (λ (low_too : j < m + 1).
    let same : j ≡ m = omega (arith, from, low_too) in
    let at : get_or (seats ++ x ∷ []) (first + (n - 1 - j)) s ≡ x = get_or_push seats x s (first + (n - 1 - j)) (omega (arith, same, len, low)) in
    subst (λ y. Q (get_or handles j h) y) (sym at) (subst (λ i. Q (get_or handles i h) x) (sym same) (here h)))
    (λ (above : m + 1 ≤ j).
    let at : get_or (seats ++ x ∷ []) (first + (n - 1 - j)) s ≡ get_or seats (first + (n - 1 - j)) s =
    get_or_append_left seats (x ∷ []) s (first + (n - 1 - j)) (omega (arith, above, below, len, low)) in
    subst (λ y. Q (get_or handles j h) y) (sym at) (weaker (get_or handles j h) (get_or seats (first + (n - 1 - j)) s) (before j h s above below)))
    (cases_lt j (m + 1))

-- what became of a seat, whether its thread began or not
pub kept_or : {S : Type 0} (did : S → S → Type 0) (began : Bool) (before after : S) → DidIfBegun did began before after → IsKeptOr did before after
kept_or did true before after d = inr (d.0 refl)
kept_or did false before after d = inl (d.1 refl)

pub both_left : (a b : Bool) → (a && b) ≡ true → a ≡ true
both_left true b h = refl
both_left false b h = h

pub both_right : (a b : Bool) → (a && b) ≡ true → b ≡ true
both_right true b h = h
both_right false b h = absurd (true≢false (sym h))
