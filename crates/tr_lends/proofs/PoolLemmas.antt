-- A pool stays one where a producer is lent and given.
use Rattle.std.proofs.Common.{◌≡◌, ◌≢◌, Bool, ℕ, suc, ◌+◌, ◌-◌, ◌<◌, ◌≤◌, List, [], ◌∷◌, ◌++◌, cond, true, false, eqb, ⊎_elim, subst, arith}
use Rattle.std.specs.Prelude.{count_by, ◌==◌}
use Rattle.std.proofs.lemmas.Bool.Decides.{eqb_tells, nat_tests}
use Rattle.std.proofs.lemmas.List.{length_push}
use Rattle.std.proofs.lemmas.List.Elements.{All-push}
use Rattle.std.proofs.lemmas.List.Sums.{sum_by-cons, sum_by_push}
use Rattle.tr_lends.proofs.Once.{each-once}
use Rattle.tr_lends.specs.Free.{IsPool, free_state}
use Rattle.tr_seats.specs.Settling.{IsOneEach}
use Rattle.tr_seats.specs.Slots.{ProducerState}

abbrev count_at : List ProducerState → ℕ → ℕ
count_at ps i = count_by (λ (p : ProducerState). p.number == i) ps

abbrev counted : ProducerState → ℕ → ℕ
counted p i = cond (eqb p.number i) 1 0

counted-push : (ps : List ProducerState) (p : ProducerState) (i : ℕ) → count_at (ps ++ p ∷ []) i ≡ count_at ps i + counted p i
counted-push ps p i = sum_by_push (λ (q : ProducerState). cond (q.number == i) 1 0) ps p

one-at-most : (b : Bool) → cond b 1 0 ≤ 1
one-at-most true = omega arith
one-at-most false = omega arith

counted-once : (p : ProducerState) (i : ℕ) → counted p i ≤ 1
counted-once p i = one-at-most (eqb p.number i)

pub lent-pool : (n : ℕ) (p : ProducerState) (ps : List ProducerState) (away : ℕ) → IsPool n (free_state (p ∷ ps) away)
    → IsPool n (free_state ps (away + 1))
lent-pool n p ps away pool = record {
  all = omega (arith, pool.all);
  below = λ k d lt. pool.below (suc k) d (omega arith);
  apart = λ i. omega (arith, pool.apart i, sum_by-cons (λ (q : ProducerState). cond (q.number == i) 1 0) p ps);
}

pub given-pool : (n : ℕ) (p : ProducerState) (ps : List ProducerState) (away : ℕ) → IsPool n (free_state ps away) → 0 < away
    → p.number < n → count_by (λ (q : ProducerState). q.number == p.number) ps ≡ 0
    → IsPool n (free_state (ps ++ p ∷ []) (away - 1))
given-pool n p ps away pool some below none = record {
  all = omega (arith, pool.all, some, length_push ps p);
  below = All-push (λ (q : ProducerState). q.number < n) ps p pool.below below;
  apart = λ i. ⊎_elim
      (λ (t : (eqb p.number i ≡ true) × (p.number ≡ i)).
      subst (λ j. count_at (ps ++ p ∷ []) j ≤ 1) t.1 (omega (arith, counted-push ps p p.number, none, counted-once p p.number)))
      (λ (t : (eqb p.number i ≡ false) × (p.number ≢ i)).
      let other : counted p i ≡ 0 = grind (arith, nat_tests, t.0) in
      omega (arith, counted-push ps p i, pool.apart i, other))
      (eqb_tells p.number i);
}

pub one-each : (n : ℕ) (ps : List ProducerState) → IsPool n (free_state ps 0) → IsOneEach n ps
one-each n ps pool = λ i lt. each-once (λ (p : ProducerState). p.number) n ps (omega (arith, pool.all)) pool.below pool.apart i lt
