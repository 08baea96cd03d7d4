-- What all seats of a journal have together, and what one seat has alone.
use Rattle.std.proofs.Common.{◌≡◌, ◌≢◌, ◌<◌, ◌+◌, ℕ, suc, Bool, true, false, cond, eqb, List, [], ◌∷◌, length, sum_by, Option, ⊎_elim, refl, sym, ap, subst, ◌∙◌, arith, ne_eqb}
use Rattle.std.specs.Prelude.{filter, filter_map}
use Rattle.std.specs.List.{AllByRecursion, Contains, IsDistinct, cons_option, list_any}
use Rattle.std.proofs.lemmas.Bool.Decides.{eqb_tells}
use Rattle.std.proofs.lemmas.List.Sums.{sum_by-cons}
use Rattle.std.proofs.lemmas.Map.Steps.{length-le_from_distinct_below}
use Rattle.std.proofs.lemmas.Map.Views.{Contains-from_any}
use Rattle.tr_journal.proofs.Lines.{all-more}
use Rattle.tr_journal.specs.Views.{AreApart, ArePartsOf, IsPartOf, all_done, done_by}
use Rattle.tr_journal.specs.Whole.{AreAllOf, IsOnlyBy, numbers_of}
use Rattle.tr_journal.specs.declared.rule.Line.{Line}
use Rattle.tr_journal.specs.declared.rule.Part.{Part}

same_if : (a b : ℕ) → eqb a b ≡ true → a ≡ b
same_if a b e = ⊎_elim (λ (t : (eqb a b ≡ true) × (a ≡ b)). t.1) (λ (t : (eqb a b ≡ false) × (a ≢ b)). absurd cc) (eqb_tells a b)

absent : (n : ℕ) (ns : List ℕ) → list_any (eqb n) ns ≡ false → AllByRecursion (λ y. eqb n y ≡ false) ns
absent n [] h = tt
absent n (m ∷ ms) h =
    ⊎_elim
    (λ (t : (eqb n m ≡ true) × (n ≡ m)). absurd (cc (t.0, h)))
    (λ (t : (eqb n m ≡ false) × (n ≢ m)). (t.0, absent n ms (rw t.0 at h)))
    (eqb_tells n m)

module _ {E : Type 0} where
  -- ---- each number that was made is a part's

  apart_from : (n : ℕ) (ps : List (Part E)) → AllByRecursion (λ q. n ≢ q.who) ps → AllByRecursion (λ y. eqb n y ≡ false) (numbers_of ps)
  apart_from n [] h = tt
  apart_from n (p ∷ ps) h = (ne_eqb n p.who h.0, apart_from n ps h.1)

  distinct : (ps : List (Part E)) → AreApart ps → IsDistinct eqb (numbers_of ps)
  unfolding IsDistinct
  distinct [] h = tt
  distinct (p ∷ ps) h = (apart_from p.who ps h.0, distinct ps h.1)

  below : (made : ℕ) (lines : List (Line E)) (ps : List (Part E)) → AllByRecursion (IsPartOf made lines) ps → (q : ℕ)
      → list_any (eqb q) (numbers_of ps) ≡ true → q < made
  below made lines [] each q h = absurd cc
  below made lines (p ∷ ps) each q h =
      ⊎_elim
      (λ (t : (eqb q p.who ≡ true) × (q ≡ p.who)). omega (arith, t.1, each.0.0))
      (λ (t : (eqb q p.who ≡ false) × (q ≢ p.who)). below made lines ps each.1 q (rw t.0 at h))
      (eqb_tells q p.who)

  long : (ps : List (Part E)) → length (numbers_of ps) ≡ length ps
  long [] = refl
  long (p ∷ ps) = ap suc (long ps)

  module _ (made : ℕ) (lines : List (Line E)) (ps : List (Part E)) (are : ArePartsOf made lines ps) (whole : length ps ≡ made) where
    found_by : (n : ℕ) → n < made → (b : Bool) → list_any (eqb n) (numbers_of ps) ≡ b → list_any (eqb n) (numbers_of ps) ≡ true
    unfolding IsDistinct
    found_by n lt true is = is
    found_by n lt false is =
        let more = length-le_from_distinct_below (n ∷ numbers_of ps) made (absent n (numbers_of ps) is, distinct ps are.apart) within in
        absurd (omega (arith, more, long ps, whole))
      where
        within : (q : ℕ) → list_any (eqb q) (n ∷ numbers_of ps) ≡ true → q < made
        within q h =
            ⊎_elim
            (λ (t : (eqb q n ≡ true) × (q ≡ n)). omega (arith, t.1, lt))
            (λ (t : (eqb q n ≡ false) × (q ≢ n)). below made lines ps are.each q (rw t.0 at h))
            (eqb_tells q n)

    found : (n : ℕ) → n < made → list_any (eqb n) (numbers_of ps) ≡ true
    found n lt = found_by n lt (list_any (eqb n) (numbers_of ps)) refl

  -- ---- each line is in one part alone

  -- how many of the parts are of this number
  abbrev count : ℕ → List (Part E) → ℕ
  count n ps = sum_by (λ (p : Part E). cond (eqb n p.who) 1 0) ps

  abbrev many_by : List (Line E) → List (Part E) → ℕ
  many_by lines ps = sum_by (λ (p : Part E). length (done_by p.who lines)) ps

  count_none : (n : ℕ) (ps : List (Part E)) → AllByRecursion (λ q. n ≢ q.who) ps → count n ps ≡ 0
  count_none n [] h = refl
  count_none n (p ∷ ps) h =
      sum_by-cons (λ (q : Part E). cond (eqb n q.who) 1 0) p ps ∙ (let none = count_none n ps h.1 in rw (ne_eqb n p.who h.0) (omega arith))

  count_one : (n : ℕ) (ps : List (Part E)) → AreApart ps → list_any (eqb n) (numbers_of ps) ≡ true → count n ps ≡ 1
  count_one n [] apart has = absurd cc
  count_one n (p ∷ ps) apart has =
      sum_by-cons (λ (q : Part E). cond (eqb n q.who) 1 0) p ps
      ∙ ⊎_elim
      (λ (t : (eqb n p.who ≡ true) × (n ≡ p.who)).
      let none = count_none n ps (subst (λ m. AllByRecursion (λ q. m ≢ q.who) ps) (sym t.1) apart.0) in
      rw t.0 (omega arith))
      (λ (t : (eqb n p.who ≡ false) × (n ≢ p.who)).
      let one = count_one n ps apart.1 (rw t.0 at has) in
      rw t.0 (omega arith))
      (eqb_tells n p.who)

  one_more_by : (l : Line E) (ls : List (Line E)) (who : ℕ) → length (done_by who (l ∷ ls)) ≡ cond (eqb l.who who) 1 0 + length (done_by who ls)
  one_more_by l ls who =
      ⊎_elim
      (λ (t : (eqb l.who who ≡ true) × (l.who ≡ who)). rw t.0 (omega arith))
      (λ (t : (eqb l.who who ≡ false) × (l.who ≢ who)). rw t.0 (omega arith))
      (eqb_tells l.who who)

  many-cons : (l : Line E) (ls : List (Line E)) (ps : List (Part E)) → many_by (l ∷ ls) ps ≡ count l.who ps + many_by ls ps
  many-cons l ls [] = refl
  many-cons l ls (p ∷ ps) =
      let a = sum_by-cons (λ (q : Part E). length (done_by q.who (l ∷ ls))) p ps in
      let b = sum_by-cons (λ (q : Part E). cond (eqb l.who q.who) 1 0) p ps in
      let d = sum_by-cons (λ (q : Part E). length (done_by q.who ls)) p ps in
      omega (arith, a, b, d, one_more_by l ls p.who, many-cons l ls ps)

  many-none : (ps : List (Part E)) → many_by [] ps ≡ 0
  many-none [] = refl
  many-none (p ∷ ps) =
      let a : many_by [] (p ∷ ps) ≡ 0 + many_by [] ps = sum_by-cons (λ (q : Part E). length {A = E} (done_by q.who [])) p ps in
      omega (arith, a, many-none ps)

  many-all : (ps : List (Part E)) → AreApart ps → (ls : List (Line E)) → AllByRecursion (λ l. list_any (eqb l.who) (numbers_of ps) ≡ true) ls
      → length ls ≡ many_by ls ps
  many-all ps apart [] has = sym (many-none ps)
  many-all ps apart (l ∷ ls) has = omega (arith, many-cons l ls ps, count_one l.who ps apart has.0, many-all ps apart ls has.1)

  many-own : (made : ℕ) (lines : List (Line E)) (ps : List (Part E)) → AllByRecursion (IsPartOf made lines) ps
      → sum_by (λ (p : Part E). length p.own) ps ≡ many_by lines ps
  many-own made lines [] each = refl
  many-own made lines (p ∷ ps) each =
      let a = sum_by-cons (λ (q : Part E). length q.own) p ps in
      let b = sum_by-cons (λ (q : Part E). length (done_by q.who lines)) p ps in
      omega (arith, a, b, ap length each.0.1, many-own made lines ps each.1)

  pub all-of : (made : ℕ) (lines : List (Line E)) (ps : List (Part E)) → ArePartsOf made lines ps → length ps ≡ made → AreAllOf lines ps
  all-of made lines ps are whole = record {
    each = all-more (λ (l : Line E). l.who < made) (λ (l : Line E). Contains (numbers_of ps) l.who)
        (λ l lt. Contains-from_any same_if l.who (numbers_of ps) (found made lines ps are whole l.who lt)) lines are.numbered;
    once = many-all ps are.apart lines
        (all-more (λ (l : Line E). l.who < made) (λ (l : Line E). list_any (eqb l.who) (numbers_of ps) ≡ true) (λ l lt. found made lines ps are whole l.who lt) lines are.numbered)
        ∙ sym (many-own made lines ps are.each);
  }

  -- ---- some of the seats

  module _ (test : ℕ → Bool) where
    abbrev pub lines_of : List (Line E) → List (Line E)
    lines_of ls = filter (λ l. test l.who) ls

    abbrev pub parts_among : List (Part E) → List (Part E)
    parts_among ps = filter (λ p. test p.who) ps

    all-among : (P : Part E → Type 0) (ps : List (Part E)) → AllByRecursion P ps → AllByRecursion P (parts_among ps)
    all-among P [] h = tt
    all-among P (p ∷ ps) h = by_test (test p.who) (all-among P ps h.1)
      where
        by_test : (b : Bool) → AllByRecursion P (parts_among ps) → AllByRecursion P (cond b (p ∷ parts_among ps) (parts_among ps))
        by_test true rest = (h.0, rest)
        by_test false rest = rest

    apart-among : (ps : List (Part E)) → AreApart ps → AreApart (parts_among ps)
    apart-among [] h = tt
    apart-among (p ∷ ps) h = by_test (test p.who) (all-among (λ q. p.who ≢ q.who) ps h.0) (apart-among ps h.1)
      where
        by_test : (b : Bool) → AllByRecursion (λ q. p.who ≢ q.who) (parts_among ps) → AreApart (parts_among ps)
            → AreApart (cond b (p ∷ parts_among ps) (parts_among ps))
        by_test true apart rest = (apart, rest)
        by_test false apart rest = rest

    found-among : (n : ℕ) → test n ≡ true → (ps : List (Part E)) → list_any (eqb n) (numbers_of ps) ≡ true
        → list_any (eqb n) (numbers_of (parts_among ps)) ≡ true
    found-among n mine_is [] h = h
    found-among n mine_is (p ∷ ps) h =
        ⊎_elim
        (λ (t : (eqb n p.who ≡ true) × (n ≡ p.who)). let mine : test p.who ≡ true = ap test (sym t.1) ∙ mine_is in rw mine (rw t.0 refl))
        (λ (t : (eqb n p.who ≡ false) × (n ≢ p.who)). by_test (test p.who) (found-among n mine_is ps (rw t.0 at h)) t.0)
        (eqb_tells n p.who)
      where
        by_test : (b : Bool) → list_any (eqb n) (numbers_of (parts_among ps)) ≡ true → eqb n p.who ≡ false
            → list_any (eqb n) (numbers_of (cond b (p ∷ parts_among ps) (parts_among ps))) ≡ true
        by_test true rest other = rw other rest
        by_test false rest other = rest

    all-lines : (P : Line E → Type 0) (ls : List (Line E)) → AllByRecursion (λ l. test l.who ≡ true → P l) ls → AllByRecursion P (lines_of ls)
    all-lines P [] h = tt
    all-lines P (l ∷ ls) h = by_test (test l.who) refl (all-lines P ls h.1)
      where
        by_test : (b : Bool) → test l.who ≡ b → AllByRecursion P (lines_of ls) → AllByRecursion P (cond b (l ∷ lines_of ls) (lines_of ls))
        by_test true e rest = (h.0 e, rest)
        by_test false e rest = rest

    done-among : (who : ℕ) → test who ≡ true → (ls : List (Line E)) → done_by who (lines_of ls) ≡ done_by who ls
    done-among who mine_is [] = refl
    done-among who mine_is (l ∷ ls) =
        ⊎_elim
        (λ (t : (eqb l.who who ≡ true) × (l.who ≡ who)).
        let mine : test l.who ≡ true = ap test t.1 ∙ mine_is in
        rw mine (rw t.0 (ap (λ ds. l.done ∷ ds) (done-among who mine_is ls))))
        (λ (t : (eqb l.who who ≡ false) × (l.who ≢ who)). by_test (test l.who) (done-among who mine_is ls) t.0)
        (eqb_tells l.who who)
      where
        by_test : (b : Bool) → done_by who (lines_of ls) ≡ done_by who ls → eqb l.who who ≡ false
            → done_by who (cond b (l ∷ lines_of ls) (lines_of ls)) ≡ done_by who (l ∷ ls)
        by_test true rest other = rw other rest
        by_test false rest other = rw other rest

    own-among : (made : ℕ) (ls : List (Line E)) (ps : List (Part E)) → AllByRecursion (IsPartOf made ls) ps
        → sum_by (λ (p : Part E). length p.own) (parts_among ps) ≡ many_by (lines_of ls) (parts_among ps)
    own-among made ls [] each = refl
    own-among made ls (p ∷ ps) each = by_test (test p.who) refl (own-among made ls ps each.1)
      where
        by_test : (b : Bool) → test p.who ≡ b
            → sum_by (λ (q : Part E). length q.own) (parts_among ps) ≡ many_by (lines_of ls) (parts_among ps)
            → sum_by (λ (q : Part E). length q.own) (cond b (p ∷ parts_among ps) (parts_among ps))
            ≡ many_by (lines_of ls) (cond b (p ∷ parts_among ps) (parts_among ps))
        by_test true e rest =
            let a = sum_by-cons (λ (q : Part E). length q.own) p (parts_among ps) in
            let b = sum_by-cons (λ (q : Part E). length (done_by q.who (lines_of ls))) p (parts_among ps) in
            omega (arith, a, b, ap length (each.0.1 ∙ sym (done-among p.who e ls)), rest)
        by_test false e rest = rest

    pub all-of-among : (made : ℕ) (ls : List (Line E)) (ps : List (Part E)) → ArePartsOf made ls ps → length ps ≡ made
        → AreAllOf (lines_of ls) (parts_among ps)
    all-of-among made ls ps are whole =
        let has : (l : Line E) → l.who < made → test l.who ≡ true → list_any (eqb l.who) (numbers_of (parts_among ps)) ≡ true =
        λ l lt mine_is. found-among l.who mine_is ps (found made ls ps are whole l.who lt) in
        let have = all-lines (λ l. list_any (eqb l.who) (numbers_of (parts_among ps)) ≡ true) ls
        (all-more (λ (l : Line E). l.who < made) (λ (l : Line E). test l.who ≡ true → list_any (eqb l.who) (numbers_of (parts_among ps)) ≡ true)
        has ls are.numbered) in
        record {
          each = all-more (λ (l : Line E). list_any (eqb l.who) (numbers_of (parts_among ps)) ≡ true) (λ (l : Line E). Contains (numbers_of (parts_among ps)) l.who)
              (λ l mine_is. Contains-from_any same_if l.who (numbers_of (parts_among ps)) mine_is) (lines_of ls) have;
          once = many-all (parts_among ps) (apart-among ps are.apart) (lines_of ls) have ∙ sym (own-among made ls ps are.each);
        }

  -- ---- what one seat has alone

  pub alone : {X : Type 0} → (kind : E → Option X) (who : ℕ) (lines : List (Line E)) → IsOnlyBy who kind lines
      → filter_map kind (all_done lines) ≡ filter_map kind (done_by who lines)
  alone kind who [] only = refl
  alone kind who (l ∷ ls) only =
      ⊎_elim
      (λ (t : (eqb l.who who ≡ true) × (l.who ≡ who)). rw t.0 (ap (cons_option (kind l.done)) (alone kind who ls only.1)))
      (λ (t : (eqb l.who who ≡ false) × (l.who ≢ who)). rw t.0 (rw (only.0 t.1) (alone kind who ls only.1)))
      (eqb_tells l.who who)
