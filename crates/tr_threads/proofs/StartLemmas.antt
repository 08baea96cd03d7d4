-- Threads that were started, the last first, and what comes back from them.
use Rattle.std.proofs.Common.{◌≡◌, ℕ, ◌+◌, ◌-◌, ◌<◌, ◌≤◌, List, [], ◌∷◌, ◌++◌, length, get_or, ap, sym, subst, ◌∙◌, arith, ⊎_elim, not-suc-le-zero}
use Rattle.std.proofs.lemmas.List.{get_or_push, get_or_append_left, length-append}
use Rattle.std.proofs.lemmas.Bool.{cases_lt}

pub default_of : {X : Type 0} → (xs : List X) (j : ℕ) → j < length xs → X
default_of [] j low = absurd (not-suc-le-zero low)
default_of (x ∷ xs) j low = x

-- each thread works at w with the seat at its place, which its number says
abbrev pub AreTasks : {H S W : Type 0} → (H → W) → (H → ℕ) → (H → S) → W → List S → ℕ → List H → Type 0
AreTasks {H} {S} work worker seat w given n hs = (j : ℕ) (h : H) (s : S) → j < length hs
    → (work (get_or hs j h) ≡ w) × (worker (get_or hs j h) ≡ n - 1 - j) × (seat (get_or hs j h) ≡ get_or given (n - 1 - j) s)

pub starts_one : {H S W : Type 0} (work : H → W) (worker : H → ℕ) (seat : H → S) (w : W) (given : List S) (n : ℕ) (hs : List H) (x : H)
    → AreTasks work worker seat w given n hs → work x ≡ w → worker x ≡ n - 1 - length hs
    → ((s : S) → seat x ≡ get_or given (n - 1 - length hs) s) → AreTasks work worker seat w given n (hs ++ x ∷ [])
starts_one {H} {S} {W} work worker seat w given n hs x were is_work is_worker is_seat j h s low =
    let Is : H → ℕ → Type 0 = λ y k. (work y ≡ w) × (worker y ≡ n - 1 - k) × (seat y ≡ get_or given (n - 1 - k) s) in
    let total : length (hs ++ x ∷ []) ≡ length hs + 1 = length-append hs (x ∷ []) in
    ⊎_elim
    (λ (older : j < length hs). subst (λ y. Is y j) (sym (get_or_append_left hs (x ∷ []) h j older)) (were j h s older))
    (λ (past : length hs ≤ j).
    let same : length hs ≡ j = omega (arith, past, low, total) in
    subst (λ y. Is y j) (sym (get_or_push hs x h j same)) (subst (λ k. Is x k) same (is_work, is_worker, is_seat s)))
    (cases_lt j (length hs))

pub comes_back : {H S W : Type 0} (work : H → W) (worker : H → ℕ) (seat : H → S) (D : W → ℕ → S → S → Type 0) (w : W) (hs : List H)
    (given back : List S) (first n : ℕ) → first + length hs ≡ n → AreTasks work worker seat w given n hs
    → ((j : ℕ) (h : H) (s : S) → j < length hs
    → D (work (get_or hs j h)) (worker (get_or hs j h)) (seat (get_or hs j h)) (get_or back (first + (length hs - 1 - j)) s))
    → (i : ℕ) (s u : S) → first ≤ i → i < n → D w i (get_or given i s) (get_or back i u)
comes_back {H} {S} {W} work worker seat D w hs given back first n total tasks joined i s u from below =
    let j : ℕ = n - 1 - i in
    let low : j < length hs = omega (arith, total, from, below) in
    let h : H = default_of hs j low in let x : H = get_or hs j h in
    let t = tasks j h s low in
    let place : n - 1 - j ≡ i = omega (arith, below) in
    let behind : first + (length hs - 1 - j) ≡ i = omega (arith, total, from, below) in
    let b : S = get_or back (first + (length hs - 1 - j)) u in
    let d0 : D (work x) (worker x) (seat x) b = joined j h u low in
    let d1 : D w (worker x) (seat x) b = subst (λ y. D y (worker x) (seat x) b) t.0 d0 in
    let d2 : D w i (seat x) b = subst (λ y. D w y (seat x) b) (t.1 ∙ place) d1 in
    let d3 : D w i (get_or given i s) b = subst (λ y. D w i y b) (t.2 ∙ ap (λ k. get_or given k s) place) d2 in
    subst (λ k. D w i (get_or given i s) (get_or back k u)) behind d3

-- one before the last
pub before_last : {X : Type 0} (xs ys : List X) (x d : X) (i : ℕ) → ys ≡ xs ++ x ∷ [] → i < length xs → get_or ys i d ≡ get_or xs i d
before_last xs ys x d i e low = ap (λ zs. get_or zs i d) e ∙ get_or_append_left xs (x ∷ []) d i low

-- the last one
pub is_last : {X : Type 0} (xs ys : List X) (x d : X) (i : ℕ) → ys ≡ xs ++ x ∷ [] → length xs ≡ i → get_or ys i d ≡ x
is_last xs ys x d i e same = ap (λ zs. get_or zs i d) e ∙ get_or_push xs x d i same
