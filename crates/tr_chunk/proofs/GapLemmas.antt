-- The runs of an audit are the absent numbers.
use Rattle.std.proofs.Common.{◌≡◌, ℕ, ◌+◌, ◌-◌, ◌<◌, ◌≤◌, Bool, true, false, not, cond, ◌&&◌, ◌||◌, leb, ltb, eqb, List, [], ◌∷◌, ◌++◌, Option, Some, None, refl, sym, ap, subst, ◌∙◌, append_assoc, arith, inl, inr}
use Rattle.std.specs.Prelude.{IsTrue}
use Rattle.std.specs.List.{AllByRecursion, last_or, list_any}
use Rattle.std.proofs.lemmas.Bool.{le-leb, lt-leb, ltb-true, ltb-false, lt-ltb, le-ltb, eq-eqb, ne_eqb, cases_lt}
use Rattle.std.proofs.lemmas.List.Folds.{list_any-append}
use Rattle.tr_packet.specs.Order.{follows}
use Rattle.tr_packet.proofs.OrderLemmas.{first_holds, second_holds}
use Rattle.tr_record.proofs.RecordLemmas.{all_append}
use Rattle.tr_chunk.specs.Audit.{gap_before, gaps_behind, numbers_rise_after, is_in_run, is_in_runs, is_one_of, IsLongest}

-- ---- one run

-- the first number that may be absent
abbrev first_absent : Option ℕ → ℕ
first_absent None = 0
first_absent (Some before) = before + 1

or_false : (b : Bool) → (b || false) ≡ b
or_false true = refl
or_false false = refl

and_false : (b : Bool) → (b && false) ≡ false
and_false true = refl
and_false false = refl

or_true : (b : Bool) → (b || true) ≡ true
or_true true = refl
or_true false = refl

outside : (k start n : ℕ) → n ≤ start → (leb start k && ltb k n) ≡ false
outside k start n le =
    elim (cases_lt k start) [
      | inl below ↦ rw (lt-leb start k below) refl
      | inr past ↦ rw (le-ltb k n (omega (arith, le, past))) (and_false (leb start k))
    ]

in_run : (k start n count : ℕ) (test : Bool) → (start < n → start + count ≡ n) → ltb start n ≡ test
    → is_in_runs k (cond test ((start, count) ∷ []) []) ≡ (leb start k && ltb k n)
in_run k start n count true whole e =
    ap (λ (m : ℕ). (leb start k && ltb k m) || false) (whole (ltb-true start n e)) ∙ or_false (leb start k && ltb k n)
in_run k start n count false whole e = sym (outside k start n (ltb-false start n e))

in_gap : (before : Option ℕ) (n k : ℕ) → is_in_runs k (gap_before before n) ≡ (leb (first_absent before) k && ltb k n)
in_gap None n k = in_run k 0 n n (ltb 0 n) (λ lt. omega arith) refl
in_gap (Some b) n k = in_run k (b + 1) n (n - (b + 1)) (ltb (b + 1) n) (λ lt. omega (arith, lt)) refl

-- ---- numbers that rise

not_one_of : (b : ℕ) (ns : List ℕ) (k : ℕ) → IsTrue (numbers_rise_after (Some b) ns) → k ≤ b → is_one_of k ns ≡ false
not_one_of b [] k rise le = refl
not_one_of b (n ∷ ns) k rise le =
    let lt = ltb-true b n (first_holds (ltb b n) (numbers_rise_after (Some n) ns) rise) in
    rw (
      ne_eqb k n (λ same. omega (arith, lt, le, same)),
      not_one_of n ns k (second_holds (ltb b n) (numbers_rise_after (Some n) ns) rise) (omega (arith, lt, le)),
    ) refl

not_in_runs : (b : ℕ) (ns : List ℕ) (k : ℕ) → IsTrue (numbers_rise_after (Some b) ns) → k ≤ b → is_in_runs k (gaps_behind (Some b) ns) ≡ false
not_in_runs b [] k rise le = refl
not_in_runs b (n ∷ ns) k rise le =
    let lt = ltb-true b n (first_holds (ltb b n) (numbers_rise_after (Some n) ns) rise) in
    list_any-append (is_in_run k) (gap_before (Some b) n) (gaps_behind (Some n) ns)
    ∙ ap (λ (t : Bool). t || is_in_runs k (gaps_behind (Some n) ns))
    (in_gap (Some b) n k ∙ ap (λ (t : Bool). t && ltb k n) (lt-leb (b + 1) k (omega (arith, le))))
    ∙ not_in_runs n ns k (second_holds (ltb b n) (numbers_rise_after (Some n) ns) rise) (omega (arith, lt, le))

none_is_some : (n : ℕ) → None ≡ Some n → ⊥
none_is_some n e = cc

some_same : (m n : ℕ) → Some m ≡ Some n → m ≡ n
some_same m n e = cc

absent_by : (before : Option ℕ) (ns : List ℕ) (last k : ℕ) → IsTrue (numbers_rise_after before ns)
    → last_or before ns ≡ Some last → first_absent before ≤ k → k < last
    → is_in_runs k (gaps_behind before ns) ≡ not (is_one_of k ns)
absent_by None [] last k rise is start below = absurd (none_is_some last is)
absent_by (Some b) [] last k rise is start below = let same = some_same b last is in absurd (omega (arith, same, start, below))
absent_by before (n ∷ ns) last k rise is start below =
    let others = second_holds (follows before n) (numbers_rise_after (Some n) ns) rise in
    let parts =
    list_any-append (is_in_run k) (gap_before before n) (gaps_behind (Some n) ns)
    ∙ ap (λ (t : Bool). t || is_in_runs k (gaps_behind (Some n) ns))
    (in_gap before n k ∙ ap (λ (t : Bool). t && ltb k n) (le-leb (first_absent before) k start)) in
    parts
    ∙ elim (cases_lt k n) [
      | inl lt ↦ rw (lt-ltb k n lt, ne_eqb k n (λ same. omega (arith, lt, same)), not_one_of n ns k others (omega (arith, lt))) refl
      | inr past ↦
          elim (cases_lt n k) [
            | inl above ↦ rw (le-ltb k n past, ne_eqb k n (λ same. omega (arith, above, same)))
                (absent_by (Some n) ns last k others is (omega (arith, above)) below)
            | inr le ↦ rw (le-ltb k n past, eq-eqb k n (omega (arith, le, past)), not_in_runs n ns k others le) refl
          ]
    ]

up_to_last : (n : ℕ) (ns : List ℕ) (last : ℕ) → IsTrue (numbers_rise_after (Some n) ns) → last_or (Some n) ns ≡ Some last → n ≤ last
up_to_last n [] last rise is = omega (arith, some_same n last is)
up_to_last n (m ∷ ms) last rise is =
    omega (
      arith,
      ltb-true n m (first_holds (ltb n m) (numbers_rise_after (Some m) ms) rise),
      up_to_last m ms last (second_holds (ltb n m) (numbers_rise_after (Some m) ms) rise) is,
    )

none_past : (before : Option ℕ) (ns : List ℕ) (last k : ℕ) → IsTrue (numbers_rise_after before ns)
    → last_or before ns ≡ Some last → last ≤ k → is_in_runs k (gaps_behind before ns) ≡ false
none_past before [] last k rise is past = refl
none_past before (n ∷ ns) last k rise is past =
    let others = second_holds (follows before n) (numbers_rise_after (Some n) ns) rise in
    list_any-append (is_in_run k) (gap_before before n) (gaps_behind (Some n) ns)
    ∙ ap (λ (t : Bool). t || is_in_runs k (gaps_behind (Some n) ns))
    (in_gap before n k ∙ ap (λ (t : Bool). leb (first_absent before) k && t)
    (le-ltb k n (omega (arith, past, up_to_last n ns last others is))) ∙ and_false (leb (first_absent before) k))
    ∙ none_past (Some n) ns last k others is past

pub absent_numbers : (ns : List ℕ) (last k : ℕ) → IsTrue (numbers_rise_after None ns) → last_or None ns ≡ Some last
    → is_in_runs k (gaps_behind None ns) ≡ (ltb k last && not (is_one_of k ns))
absent_numbers ns last k rise is =
    elim (cases_lt k last) [
      | inl below ↦ absent_by None ns last k rise is (omega arith) below ∙ ap (λ (t : Bool). t && not (is_one_of k ns)) (sym (lt-ltb k last below))
      | inr past ↦ none_past None ns last k rise is past ∙ ap (λ (t : Bool). t && not (is_one_of k ns)) (sym (le-ltb k last past))
    ]

-- ---- runs are as long as they can be

-- the number before, if any, is one of these
abbrev IsKnown : Option ℕ → List ℕ → Type 0
IsKnown None pre = Unit {0}
IsKnown (Some b) pre = IsTrue (is_one_of b pre)

one_of_front : (k : ℕ) (xs ys : List ℕ) → IsTrue (is_one_of k xs) → IsTrue (is_one_of k (xs ++ ys))
one_of_front k xs ys h = list_any-append (eqb k) xs ys ∙ rw h refl

one_of_back : (k : ℕ) (xs ys : List ℕ) → IsTrue (is_one_of k (xs ++ k ∷ ys))
one_of_back k xs ys = list_any-append (eqb k) xs (k ∷ ys) ∙ rw (eq-eqb k k refl) (or_true (list_any (eqb k) xs))

one_run : (ns : List ℕ) (start n count : ℕ) (test : Bool) → ltb start n ≡ test → (start < n → start + count ≡ n)
    → IsTrue (is_one_of n ns) → (0 < start → IsTrue (is_one_of (start - 1) ns))
    → AllByRecursion (IsLongest ns) (cond test ((start, count) ∷ []) [])
one_run ns start n count false e whole behind before = tt
one_run ns start n count true e whole behind before =
    let lt = ltb-true start n e in
    let same = whole lt in
    (record { some = omega (arith, lt, same); behind = subst (λ (m : ℕ). IsTrue (is_one_of m ns)) (sym same) behind; before = before }, tt)

gap_longest : (before : Option ℕ) (pre : List ℕ) (n : ℕ) (ns : List ℕ) → IsKnown before pre
    → AllByRecursion (IsLongest (pre ++ n ∷ ns)) (gap_before before n)
gap_longest None pre n ns known =
    one_run (pre ++ n ∷ ns) 0 n n (ltb 0 n) refl (λ lt. omega arith) (one_of_back n pre ns)
    (λ some. absurd (omega (arith, some)))
gap_longest (Some b) pre n ns known =
    one_run (pre ++ n ∷ ns) (b + 1) n (n - (b + 1)) (ltb (b + 1) n) refl (λ lt. omega (arith, lt)) (one_of_back n pre ns)
    (λ some. subst (λ (m : ℕ). IsTrue (is_one_of m (pre ++ n ∷ ns))) (omega arith) (one_of_front b pre (n ∷ ns) known))

longest_by : (before : Option ℕ) (pre ns : List ℕ) → IsKnown before pre → AllByRecursion (IsLongest (pre ++ ns)) (gaps_behind before ns)
longest_by before pre [] known = tt
longest_by before pre (n ∷ ns) known =
    all_append (IsLongest (pre ++ n ∷ ns)) (gap_before before n) (gaps_behind (Some n) ns) (gap_longest before pre n ns known)
    (subst (λ (l : List ℕ). AllByRecursion (IsLongest l) (gaps_behind (Some n) ns)) (append_assoc pre (n ∷ []) ns)
    (longest_by (Some n) (pre ++ n ∷ []) ns (one_of_back n pre [])))

pub longest_runs : (ns : List ℕ) → AllByRecursion (IsLongest ns) (gaps_behind None ns)
longest_runs ns = longest_by None [] ns tt
