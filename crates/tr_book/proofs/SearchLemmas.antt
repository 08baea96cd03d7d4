-- A search among runs that rise.
use Rattle.std.proofs.Common.{◌≡◌, ℕ, ◌+◌, ◌<◌, ◌≤◌, zero, suc, Bool, true, false, cond, leb, List, [], ◌∷◌, length, get_or, Option, Some, None, refl, sym, ◌∙◌, ap, arith}
use Rattle.std.proofs.lemmas.Bool.Decides.{nat_tests}
use Rattle.std.proofs.lemmas.Grind.{common_steps}
use Rattle.std.specs.List.Sorted.{IsNonDecreasingBy, IsPartitionPoint}
use Rattle.tr_book.specs.Runs.{RunsRise, is_in_run, seq_in_runs}
use Rattle.tr_book.specs.declared.runs.Run.{Run}

first-run : (n : ℕ) (r : Run) (rs : List Run) → seq_in_runs n (r ∷ rs) ≡ cond (is_in_run n r) (Some r.seq) (seq_in_runs n rs)
first-run n r rs = either (is_in_run n r) refl
  where
    either : (b : Bool) → is_in_run n r ≡ b → seq_in_runs n (r ∷ rs) ≡ cond (is_in_run n r) (Some r.seq) (seq_in_runs n rs)
    either true e = rw e refl
    either false e = rw e refl

-- runs that begin later don't have it
all-later : (n : ℕ) (rs : List Run) → ((k : ℕ) (d : Run) → k < length rs → leb (get_or rs k d).first n ≡ false) → seq_in_runs n rs ≡ None
all-later n [] later = refl
all-later n (r ∷ rs) later =
    let here : leb r.first n ≡ false = later 0 r (grind (arith, common_steps)) in
    let outside : is_in_run n r ≡ false = grind (arith, nat_tests, here) in
    let rest = all-later n rs (λ k d within. later (suc k) d (grind (arith, common_steps, within))) in
    first-run n r rs ∙ ap (λ (b : Bool). cond b (Some r.seq) (seq_in_runs n rs)) outside ∙ rest

-- before the turn nothing begins
pub none-begins : (n : ℕ) (rs : List Run)
    → IsPartitionPoint (λ (r : Run). leb r.first n ≡ true) (λ (r : Run). leb r.first n ≡ false) rs 0 → None ≡ seq_in_runs n rs
none-begins n rs point = sym (all-later n rs (λ k d within. point.1 k d (omega arith) within))

-- the last run that begins before the turn is the only one that may have it
pub last-begins : (n low : ℕ) (rs : List Run) (i : ℕ) (d : Run) → RunsRise low rs → i < length rs
    → IsPartitionPoint (λ (r : Run). leb r.first n ≡ true) (λ (r : Run). leb r.first n ≡ false) rs (i + 1)
    → seq_in_runs n rs ≡ cond (is_in_run n (get_or rs i d)) (Some (get_or rs i d).seq) None
last-begins n low [] i d rise within point = absurd (omega (arith, within))
last-begins n low (r ∷ rs) zero d rise within point =
    first-run n r rs
    ∙ ap (λ (o : Option ℕ). cond (is_in_run n r) (Some r.seq) o)
    (all-later n rs (λ k e below. point.1 (suc k) e (omega arith) (grind (arith, common_steps, below))))
last-begins n low (r ∷ rs) (suc i) d rise within point =
    let more : i < length rs = grind (arith, common_steps, within) in
    let next = second rs rise.1 more (λ e. point.0 1 e (omega arith) (omega arith)) in
    let outside : is_in_run n r ≡ false = grind (arith, nat_tests, next) in
    first-run n r rs
    ∙ ap (λ (b : Bool). cond b (Some r.seq) (seq_in_runs n rs)) outside
    ∙ last-begins n (r.first + r.count) rs i d rise.1 more (
      λ k e least below. point.0 (suc k) e (omega arith) (omega (arith, below)),
      λ k e least below. point.1 (suc k) e (omega (arith, least)) (grind (arith, common_steps, below)),
    )
  where
    second : (qs : List Run) → RunsRise (r.first + r.count) qs → i < length qs
        → ((e : Run) → leb (get_or (r ∷ qs) 1 e).first n ≡ true) → r.first + r.count ≤ n
    second [] rise' some begun = absurd (omega (arith, some))
    second (q ∷ qs) rise' some begun = let b : leb q.first n ≡ true = begun q in grind (arith, nat_tests, b, rise'.0)

-- first serials rise
least-first : (low : ℕ) (rs : List Run) (j : ℕ) (d : Run) → RunsRise low rs → j < length rs → low ≤ (get_or rs j d).first
least-first low [] j d rise within = absurd (omega (arith, within))
least-first low (r ∷ rs) zero d rise within = rise.0
least-first low (r ∷ rs) (suc j) d rise within =
    let more = least-first (r.first + r.count) rs j d rise.1 (grind (arith, common_steps, within)) in omega (arith, more, rise.0)

pub firsts-rise : (low : ℕ) (rs : List Run) → RunsRise low rs → IsNonDecreasingBy (λ (r : Run). r.first) rs
firsts-rise low [] rise = λ i j d le within. absurd (omega (arith, within))
firsts-rise low (r ∷ rs) rise = go (firsts-rise (r.first + r.count) rs rise.1)
  where
    go : IsNonDecreasingBy (λ (q : Run). q.first) rs → IsNonDecreasingBy (λ (q : Run). q.first) (r ∷ rs)
    go later zero zero d le within = omega arith
    go later zero (suc j) d le within =
        let more = least-first (r.first + r.count) rs j d rise.1 (grind (arith, common_steps, within)) in omega (arith, more)
    go later (suc i) zero d le within = absurd (omega (arith, le))
    go later (suc i) (suc j) d le within = later i j d (omega (arith, le)) (grind (arith, common_steps, within))
