-- Operators that are all that were made.
use Rattle.std.proofs.Common.{◌≡◌, ◌≢◌, ◌∙◌, ◌+◌, ◌<◌, ◌≤◌, ◌^◌, ℕ, zero, suc, Bool, true, false, List, [], ◌∷◌, arith, below_more, eq-eqb, eqb, get_or, length, refl, subst, sym, true≢false, ⊎_elim}
use Rattle.std.specs.Prelude.{All, IsTrue, ◌↔◌}
use Rattle.std.specs.List.{AllByRecursion, AllPairs, Contains, list_any}
use Rattle.std.proofs.lemmas.Bool.Decides.{eqb_tells}
use Rattle.std.proofs.lemmas.List.Elements.{All-cons, All-nil}
use Rattle.std.proofs.lemmas.List.Kept.{AllPairs-cons}
use Rattle.std.proofs.lemmas.Map.Views.{Contains-from_any}
use Rattle.tr_journal.specs.declared.rule.Line.{Line}
use Rattle.tr_operations.specs.declared.step.DeskStep.{DeskStep}
use Rattle.tr_seats.specs.Operators.{AreAllOperators, AreOperators, DidAll, HasItsOwn, IsNumber, OperatorState, new_operator, operator_numbers, operators_of}

-- the n numbers from this one on
abbrev numbers_from : ℕ → ℕ → List ℕ
numbers_from a zero = []
numbers_from a (suc n) = a ∷ numbers_from (suc a) n

later : (a b n : ℕ) → a < b → All (λ m. a ≢ m) (numbers_from b n)
later a b zero lt = All-nil (λ m. a ≢ m)
later a b (suc n) lt =
    All-cons (λ m. a ≢ m) b (numbers_from (suc b) n) (λ same. omega (arith, lt, same)) (later a (suc b) n (omega (arith, lt)))

from-apart : (a n : ℕ) → AllPairs (λ a b. a ≢ b) (numbers_from a n)
from-apart a zero = λ i j d lt within. absurd (omega (arith, within))
from-apart a (suc n) = AllPairs-cons (λ a b. a ≢ b) a (numbers_from (suc a) n) (later a (suc a) n (omega arith)) (from-apart (suc a) n)

pub same_if : (a b : ℕ) → eqb a b ≡ true → a ≡ b
same_if a b e = ⊎_elim (λ (t : (eqb a b ≡ true) × (a ≡ b)). t.1) (λ (t : (eqb a b ≡ false) × (a ≢ b)). absurd cc) (eqb_tells a b)

from-has : (who a n : ℕ) → a ≤ who → who < a + n → list_any (eqb who) (numbers_from a n) ≡ true
from-has who a zero low lt = absurd (omega (arith, low, lt))
from-has who a (suc n) low lt =
    ⊎_elim
    (λ (t : (eqb who a ≡ true) × (who ≡ a)). rw t.0 refl)
    (λ (t : (eqb who a ≡ false) × (who ≢ a)). rw t.0 (from-has who (suc a) n (omega (arith, low, t.1)) (omega (arith, lt))))
    (eqb_tells who a)

-- each lies where its number says
numbers-are : (a : ℕ) (operators : List OperatorState)
    → ((k : ℕ) (d : OperatorState) → k < length operators → (get_or operators k d).number ≡ k + a)
    → operator_numbers operators ≡ numbers_from a (length operators)
numbers-are a [] at = refl
numbers-are a (o ∷ os) at =
    let rest = numbers-are (suc a) os (λ k d lt. at (suc k) d (omega (arith, lt)) ∙ the_sum k) in
    let first : o.number ≡ a = at 0 o (omega arith) ∙ nothing in
    λ j. first j ∷ rest j
  where
    the_sum : (k : ℕ) → suc k + a ≡ k + suc a
    the_sum k = omega arith

    nothing : 0 + a ≡ a
    nothing = omega arith

each-has : (made n : ℕ) → made ≡ n + 1 → (lines : List (Line DeskStep)) → AllByRecursion (λ (l : Line DeskStep). l.who < made) lines
    → AllByRecursion (λ (l : Line DeskStep). 0 < l.who) lines → AllByRecursion (λ (l : Line DeskStep). Contains (numbers_from 1 n) l.who) lines
each-has made n is [] below named = tt
each-has made n is (l ∷ ls) below named = (
  Contains-from_any same_if l.who (numbers_from 1 n) (from-has l.who 1 n (omega (arith, named.0)) (omega (arith, below.0, is))),
  each-has made n is ls below.1 named.1,
)

pub did-all : (made : ℕ) (lines : List (Line DeskStep)) (operators : List OperatorState) → 0 < made → AreOperators made lines
    → AreAllOperators (operators_of made) operators → AllByRecursion (HasItsOwn lines) operators → DidAll operators lines
did-all made lines operators some are all own =
    let n = length operators in
    let numbers : operator_numbers operators ≡ numbers_from 1 n = numbers-are 1 operators all.in_order in
    record {
      apart = subst (AllPairs (λ a b. a ≢ b)) (sym numbers) (from-apart 1 n);
      own = own;
      none_missing = subst (λ (l : List ℕ). AllByRecursion (λ (x : Line DeskStep). Contains l x.who) lines) (sym numbers)
          (each-has made n (omega (arith, some, all.many)) lines are.numbered are.named);
    }

-- what holds at each place holds of each
pub each-place : {X : Type 0} → (P : X → Type 0) (xs : List X) → ((k : ℕ) (d : X) → k < length xs → P (get_or xs k d)) → AllByRecursion P xs
each-place P [] h = tt
each-place P (x ∷ xs) h = (h 0 x (omega arith), each-place P xs (λ k d lt. h (suc k) d (omega (arith, lt))))

-- ---- numbers that a program counted

-- a small one is what was counted
pub counted-is : (counted number k : ℕ) → IsNumber counted number → k + 1 < 2 ^ 128 → counted ≡ k → number ≡ k
counted-is counted number k is few same =
    ⊎_elim (λ (t : counted ≡ number). sym t ∙ same)
    (λ (t : (2 ^ 128 ≤ counted + 1) × (2 ^ 128 ≤ number + 1)). absurd (omega (arith, t.0, few, same))) is

pub number-is : (counted number k : ℕ) → IsNumber counted number → k + 1 < 2 ^ 128 → number ≡ k → counted ≡ k
number-is counted number k is few same =
    ⊎_elim (λ (t : counted ≡ number). t ∙ same)
    (λ (t : (2 ^ 128 ≤ counted + 1) × (2 ^ 128 ≤ number + 1)). absurd (omega (arith, t.1, few, same))) is

-- the first n lie where their numbers say
abbrev pub AreInOrder : ℕ → List OperatorState → Type 0
AreInOrder n operators = (k : ℕ) (d : OperatorState) → k < n → (get_or operators k d).number ≡ k + 1

-- one more lies there, or doesn't
pub order-kept : (operators : List OperatorState) (k counted : ℕ) (so_far : Bool) → k + 2 < 2 ^ 128
    → ((d : OperatorState) → IsNumber counted (get_or operators k d).number) → counted ≡ k + 1
    → (IsTrue so_far ↔ AreInOrder k operators) → (IsTrue so_far ↔ AreInOrder (k + 1) operators)
order-kept operators k counted so_far few at same is = (
  λ yes m d.
      below_more (λ m. (get_or operators m d).number ≡ m + 1) k (λ m lt. is.0 yes m d lt)
      (counted-is counted (get_or operators k d).number (k + 1) (at d) (omega (arith, few)) same) m,
  λ all. is.1 (λ m d lt. all m d (omega (arith, lt))),
)

pub order-lost : (operators : List OperatorState) (k counted : ℕ) → k + 2 < 2 ^ 128
    → ((d : OperatorState) → IsNumber counted (get_or operators k d).number) → counted ≢ k + 1
    → (IsTrue false ↔ AreInOrder (k + 1) operators)
order-lost operators k counted few at other = (
  λ no. absurd (true≢false (sym no)),
  λ all.
      let d = new_operator 0 in
      absurd (other (number-is counted (get_or operators k d).number (k + 1) (at d) (omega (arith, few)) (all k d (omega arith)))),
)

-- as many as were counted
pub many-are : (operators : List OperatorState) (counted made : ℕ) → length operators + 1 < 2 ^ 128 → IsNumber counted made
    → AreInOrder (length operators) operators → (IsTrue (eqb (length operators) counted) ↔ AreAllOperators made operators)
many-are operators counted made few is in_order = (
  λ same. record {
    many = sym (counted-is counted made (length operators) is few (sym (same_if (length operators) counted same)));
    in_order = in_order;
  },
  λ all. eq-eqb (length operators) counted (sym (number-is counted made (length operators) is few (sym all.many))),
)
