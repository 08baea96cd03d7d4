-- Closed parts of which the first ones are forgotten.
use Rattle.std.proofs.Common.{◌≡◌, ℕ, ◌+◌, ◌-◌, ◌≤◌, ◌<◌, zero, suc, Bool, true, false, cond, leb, List, [], ◌∷◌, ◌++◌, length, get_or, take, drop, Some, None, refl, sym, ◌∙◌, ap, subst, arith}
use Rattle.std.proofs.lemmas.Bool.{false≢true}
use Rattle.std.proofs.lemmas.Bool.Decides.{nat_tests}
use Rattle.std.proofs.lemmas.Grind.{common_steps}
use Rattle.std.proofs.lemmas.List.{append_assoc, get_or-append-add, get_or_append_left, length-append, length-drop, length-map, length-take, take-append-drop}
use Rattle.std.proofs.lemmas.Option.{get_or_from_slice_get, unwrap_or-slice_get}
use Rattle.std.specs.List.Sorted.{IsNonDecreasing}
use Rattle.std.specs.Prelude.{is_some, slice_get}
use Rattle.tr_book.specs.Closed.{IsClosed, closed_of, forgotten_of, gone_parts, gone_starts, starts_of}
use Rattle.tr_book.specs.declared.closed.ClosedParts.{ClosedParts}
use Rattle.tr_book.specs.Parts.{AreReleased, PartState, begun_at, change_at, place_in}

module _ {X : Type 0} where
  -- an item of the first list
  pub get-front : (xs ys : List X) (k : ℕ) → k < length xs → slice_get (xs ++ ys) k ≡ slice_get xs k
  get-front [] ys k low = absurd (omega (arith, low))
  get-front (x ∷ xs) ys zero low = refl
  get-front (x ∷ xs) ys (suc k) low = get-front xs ys k (grind (arith, common_steps, low))

  -- an item after it
  pub get-past : (xs ys : List X) (k : ℕ) → length xs ≤ k → slice_get (xs ++ ys) k ≡ slice_get ys (k - length xs)
  get-past [] ys k past = let same : k ≡ k - 0 = omega arith in ap (slice_get ys) same
  get-past (x ∷ xs) ys zero past = absurd (omega (arith, past))
  get-past (x ∷ xs) ys (suc k) past =
      let same : k - length xs ≡ suc k - length (x ∷ xs) = omega arith in
      get-past xs ys k (grind (arith, common_steps, past)) ∙ ap (slice_get ys) same

  pub change-past : (f : X → X) (xs ys : List X) (k : ℕ) → length xs ≤ k → change_at k f (xs ++ ys) ≡ xs ++ change_at (k - length xs) f ys
  change-past f [] ys k past = let same : k ≡ k - 0 = omega arith in ap (λ (n : ℕ). change_at n f ys) same
  change-past f (x ∷ xs) ys zero past = absurd (omega (arith, past))
  change-past f (x ∷ xs) ys (suc k) past =
      let same : k - length xs ≡ suc k - length (x ∷ xs) = omega arith in
      ap (λ (zs : List X). x ∷ zs) (change-past f xs ys k (grind (arith, common_steps, past)))
      ∙ ap (λ (n : ℕ). x ∷ (xs ++ change_at n f ys)) same

  -- items move from the second list to the first
  pub moved-over : (xs ys : List X) (n : ℕ) → (xs ++ take n ys) ++ drop n ys ≡ xs ++ ys
  moved-over xs ys n = append_assoc xs (take n ys) (drop n ys) ∙ ap (λ (zs : List X). xs ++ zs) (take-append-drop n ys)

  -- the first items, those of the first list and so many more
  pub take-past : (xs ys : List X) (n k : ℕ) → k ≡ length xs + n → take k (xs ++ ys) ≡ xs ++ take n ys
  take-past [] ys n k is = let same : k ≡ n = omega (arith, is) in ap (λ (m : ℕ). take m ys) same
  take-past (x ∷ xs) ys n zero is = absurd (omega (arith, is))
  take-past (x ∷ xs) ys n (suc k) is = ap (λ (zs : List X). x ∷ zs) (take-past xs ys n k (grind (arith, common_steps, is)))

-- a released part
released-at : (parts : List PartState) (k : ℕ) (p : PartState) → AreReleased parts → slice_get parts k ≡ Some p → is_some p.released ≡ true
released-at [] k p are at = cc
released-at (q ∷ parts) zero p are at = let same : q ≡ p = cc in ap (λ (r : PartState). is_some r.released) (sym same) ∙ are.0
released-at (q ∷ parts) (suc k) p are at = released-at parts k p are.1 at

some-at : (parts : List PartState) (k : ℕ) → k < length parts → (p : PartState) × (slice_get parts k ≡ Some p)
some-at [] k low = absurd (omega (arith, low))
some-at (p ∷ parts) zero low = (p, refl)
some-at (p ∷ parts) (suc k) low = some-at parts k (grind (arith, common_steps, low))

-- a part that isn't released isn't one of those that are forgotten
pub held-past : (gone parts : List PartState) (k : ℕ) → AreReleased gone
    → ((p : PartState) → slice_get (gone ++ parts) k ≡ Some p → p.released ≡ None) → length gone ≤ k
held-past gone parts k are held = by_test (leb (length gone) k) refl
  where
    by_test : (b : Bool) → leb (length gone) k ≡ b → length gone ≤ k
    by_test true e = grind (arith, nat_tests, e)
    by_test false e =
        let low : k < length gone = grind (arith, nat_tests, e) in
        let some = some-at gone k low in
        let none : some.0.released ≡ None = held some.0 (get-front gone parts k low ∙ some.1) in
        absurd (false≢true (ap is_some (sym none) ∙ released-at gone k some.0 are some.1))

module _ {A : Type 0} (c : ClosedParts A) (k at : ℕ) (is : k ≡ forgotten_of c + at) where
  long : length (gone_parts c.gone.items) ≡ forgotten_of c
  long = length-map c.gone.items (λ it. it.part.of)

  past : length (gone_parts c.gone.items) ≤ k
  past = omega (arith, long, is)

  there : k - length (gone_parts c.gone.items) ≡ at
  there = omega (arith, long, is)

  -- a closed part by its place among those that aren't forgotten
  pub at-place : slice_get (closed_of c) k ≡ slice_get c.parts.items at
  at-place = get-past (gone_parts c.gone.items) c.parts.items k past ∙ ap (slice_get c.parts.items) there

  -- it changes
  pub change-over : (f : PartState → PartState) → gone_parts c.gone.items ++ change_at at f c.parts.items ≡ change_at k f (closed_of c)
  change-over f =
      sym (change-past f (gone_parts c.gone.items) c.parts.items k past
      ∙ ap (λ (n : ℕ). gone_parts c.gone.items ++ change_at n f c.parts.items) there)

-- parts are forgotten, so many more, up to the one of this number
module _ {A : Type 0} (old : ClosedParts A) (k n : ℕ) (is : IsClosed old) (upto : k ≡ forgotten_of old + n)
    (within : k ≤ length (closed_of old)) where
  gone-count : length (gone_parts old.gone.items) ≡ forgotten_of old
  gone-count = length-map old.gone.items (λ it. it.part.of)

  -- there are so many
  pub enough : n ≤ length old.parts.items
  enough = omega (arith, within, upto, gone-count, length-append (gone_parts old.gone.items) old.parts.items)

  pub enough-starts : n ≤ length old.starts.items
  enough-starts = omega (arith, enough, is.paired)

module _ {A : Type 0} (old new : ClosedParts A) (k n : ℕ) (is : IsClosed old) (upto : k ≡ forgotten_of old + n)
    (within : k ≤ length (closed_of old)) (some : 0 < n) (released : AreReleased (take k (closed_of old)))
    (parts : gone_parts new.gone.items ≡ gone_parts old.gone.items ++ take n old.parts.items)
    (starts : gone_starts new.gone.items ≡ gone_starts old.gone.items ++ take n old.starts.items)
    (left : new.parts.items ≡ drop n old.parts.items) (left_starts : new.starts.items ≡ drop n old.starts.items)
    (begin : slice_get old.starts.items (n - 1) ≡ Some new.begin) where
  start-count : length (gone_starts old.gone.items) ≡ forgotten_of old
  start-count = length-map old.gone.items (λ it. it.next.of)

  pub forgets-count : forgotten_of new ≡ k
  forgets-count = omega (
    arith,
    enough old k n is upto within,
    upto,
    gone-count old k n is upto within,
    ap length parts,
    length-map new.gone.items (λ it. it.part.of),
    length-append (gone_parts old.gone.items) (take n old.parts.items),
    length-take n old.parts.items,
  )

  all-parts : closed_of new ≡ closed_of old
  all-parts =
      rw (parts, left) (moved-over (gone_parts old.gone.items) old.parts.items n)

  all-starts : starts_of new ≡ starts_of old
  all-starts =
      rw (starts, left_starts) (moved-over (gone_starts old.gone.items) old.starts.items n)

  begins : (m : ℕ) → m ≡ k → new.begin ≡ begun_at m (starts_of old)
  begins zero none = absurd (omega (arith, none, upto, some))
  begins (suc m) one =
      let place : m ≡ length (gone_starts old.gone.items) + (n - 1) = omega (arith, one, upto, some, start-count) in
      sym (unwrap_or-slice_get (starts_of old) m 0
      ∙ ap (λ (i : ℕ). get_or (starts_of old) i 0) place
      ∙ get_or-append-add (gone_starts old.gone.items) old.starts.items (n - 1) 0
      ∙ get_or_from_slice_get old.starts.items (n - 1) new.begin 0 begin)

  pub forgets : IsClosed new
  forgets = record {
    paired = ap length left_starts ∙ length-drop n old.starts.items ∙ ap (λ (m : ℕ). m - n) is.paired
        ∙ sym (length-drop n old.parts.items) ∙ sym (ap length left);
    released = subst AreReleased
        (take-past (gone_parts old.gone.items) old.parts.items n k (omega (arith, upto, gone-count old k n is upto within)) ∙ sym parts) released;
    begun = begins (forgotten_of new) forgets-count ∙ ap (begun_at (forgotten_of new)) (sym all-starts);
    few = omega (arith, is.few, ap length all-parts);
  }

-- ---- the place of a serial's part

pub past-places : (n : ℕ) (xs ys : List ℕ) → ((j : ℕ) → j < length xs → get_or xs j 0 ≤ n) → place_in n (xs ++ ys) ≡ length xs + place_in n ys
past-places n [] ys low = omega arith
past-places n (x ∷ xs) ys low =
    let first : leb x n ≡ true = (let le = low 0 (omega arith) in grind (arith, nat_tests, le)) in
    let more = past-places n xs ys (λ j within. low (suc j) (grind (arith, common_steps, within))) in
    ap (λ (b : Bool). cond b (place_in n (xs ++ ys) + 1) 0) first ∙ omega (arith, more)

-- the serials at which forgotten parts ended are at most the last of them
pub ends-below : (n : ℕ) (xs ys : List ℕ) → IsNonDecreasing (xs ++ ys) → begun_at (length xs) (xs ++ ys) ≤ n
    → (j : ℕ) → j < length xs → get_or xs j 0 ≤ n
ends-below n [] ys rise from j within = absurd (omega (arith, within))
ends-below n (x ∷ xs) ys rise from j within =
    let last : get_or ((x ∷ xs) ++ ys) (length xs) 0 ≤ n =
    subst (λ (m : ℕ). m ≤ n) (unwrap_or-slice_get ((x ∷ xs) ++ ys) (length xs) 0) from in
    let front : get_or ((x ∷ xs) ++ ys) j 0 ≡ get_or (x ∷ xs) j 0 = get_or_append_left (x ∷ xs) ys 0 j within in
    let long : length xs < length ((x ∷ xs) ++ ys) = omega (arith, length-append (x ∷ xs) ys) in
    let up = rise j (length xs) 0 (omega (arith, within)) long in
    omega (arith, front, up, last)

-- those after them don't fall either
pub rise-past : (xs ys : List ℕ) → IsNonDecreasing (xs ++ ys) → IsNonDecreasing ys
rise-past xs ys rise = λ i j d le within.
    let long : length xs + j < length (xs ++ ys) = omega (arith, within, length-append xs ys) in
    let up : get_or (xs ++ ys) (length xs + i) d ≤ get_or (xs ++ ys) (length xs + j) d =
    rise (length xs + i) (length xs + j) d (omega (arith, le)) long in
    let low : get_or (xs ++ ys) (length xs + i) d ≡ get_or ys i d = get_or-append-add xs ys i d in
    let high : get_or (xs ++ ys) (length xs + j) d ≡ get_or ys j d = get_or-append-add xs ys j d in
    omega (arith, up, low, high)
