-- A row of seats is joined into another, one by one.
use Rattle.std.proofs.Common.{◌≡◌, ◌≢◌, ℕ, ◌+◌, ◌<◌, ◌≤◌, List, [], ◌∷◌, ◌++◌, drop, length, get_or, map, set, take, Some, true, false, eqb, leb, ⊎_elim, le_refl, sym, ap, ◌∙◌, subst, arith, get_or-set_other, get_or-set_same, if◌then◌else◌}
use Rattle.std.specs.Prelude.{nat_lt, slice_get, sum}
use Rattle.std.proofs.lemmas.List.{map-set, length-map, get_or-map, get_or_default, map-append, set-get_or, take_at, take_more}
use Rattle.std.proofs.lemmas.List.Sums.{sum_by-set, sum_by_push}
use Rattle.std.proofs.lemmas.Option.{get_or_from_slice_get, slice_get_within}
use Rattle.std.proofs.lemmas.Bool.Decides.{eqb_tells, leb_tells, nat_tests}
use Rattle.atomic_table.specs.Seated.{TableId}
use Rattle.tr_ledger.specs.Ledgers.{SeatState}
use Rattle.tr_seats.specs.Slots.{amounts_of}

-- a number that rises by another once i is past its place k
abbrev pub raised_until : (n more i k : ℕ) → ℕ
raised_until n more i k = n + (if nat_lt k i then more else 0)

pub raised-before : (n more i k : ℕ) → k < i → raised_until n more i k ≡ n + more
raised-before n more i k lt = grind (arith, nat_tests)

pub raised-from : (n more i k : ℕ) → i ≤ k → raised_until n more i k ≡ n
raised-from n more i k le = grind (arith, nat_tests)

raised-apart : (n more i k : ℕ) → k ≢ i → raised_until n more i k ≡ raised_until n more (i + 1) k
raised-apart n more i k ne =
    ⊎_elim
    (λ (t : (leb i k ≡ true) × (i ≤ k)). raised-from n more i k t.1 ∙ sym (raised-from n more (i + 1) k (omega (arith, t.1, ne))))
    (λ (t : (leb i k ≡ false) × (k < i)). raised-before n more i k t.1 ∙ sym (raised-before n more (i + 1) k (omega (arith, t.1))))
    (leb_tells i k)

-- what is read may be put back
pub put-back : {X : Type 0} → (xs : List X) (i : ℕ) (x d : X) → x ≡ get_or xs i d → set xs i x ≡ xs
put-back xs i x d is = ap (set xs i) is ∙ set-get_or xs i d

-- what is written back over a list
pub written-back : {X : Type 0} → (xs ys : List X) (n : ℕ) → ys ≡ xs → n ≡ length xs → take n (ys ++ drop (length ys) xs) ≡ xs
written-back {X = X} xs ys n same long =
    ap (λ (l : List X). take n (l ++ drop (length l) xs)) same ∙ take_at xs (drop (length xs) xs) n (sym long)

-- and over it again
pub written-twice : {X : Type 0} → (xs ys zs : List X) (n : ℕ) → ys ≡ xs → n ≡ length xs → zs ≡ take n (ys ++ drop (length ys) xs)
    → take n (zs ++ drop (length zs) (take n (ys ++ drop (length ys) xs))) ≡ xs
written-twice xs ys zs n same long again =
    let once = written-back xs ys n same long in
    written-back (take n (ys ++ drop (length ys) xs)) zs n again (long ∙ sym (ap length once)) ∙ once

-- another list of that length, written over one
pub written-over : {X : Type 0} → (xs ys : List X) (n : ℕ) → length ys ≡ length xs → n ≡ length xs → take n (ys ++ drop (length ys) xs) ≡ ys
written-over xs ys n same long = take_at ys (drop (length ys) xs) n (same ∙ sym long)

-- what is read of a list is read of an equal one
pub read-same : {X : Type 0} → (xs ys : List X) (i : ℕ) (d e : X) → xs ≡ ys → i < length ys → get_or xs i d ≡ get_or ys i e
read-same {X = X} xs ys i d e same lt = ap (λ (l : List X). get_or l i d) same ∙ get_or_default ys i d e lt

-- a row of seats of these tables has as many seats as there are tables
pub tables-length : (tables : List TableId) (seats : List SeatState) → map (λ (s : SeatState). s.table) seats ≡ tables → length seats ≡ length tables
tables-length tables seats row = sym (length-map seats (λ (s : SeatState). s.table)) ∙ ap length row

abbrev amount_in : SeatState → ℕ
amount_in s = s.amount

module _ (old now : List SeatState) (n i : ℕ) (new : SeatState) (long : i < length now) where
  -- the marks, or the amounts, before the place of the next seat have risen
  pub parts-joined : (part : SeatState → ℕ) (by : ℕ → ℕ) → i < n
      → ((k : ℕ) (d : SeatState) → k < n → part (get_or now k d) ≡ raised_until (part (get_or old k d)) (by k) i k)
      → part new ≡ part (get_or now i new) + by i
      → (k : ℕ) (d : SeatState) → k < n → part (get_or (set now i new) k d) ≡ raised_until (part (get_or old k d)) (by k) (i + 1) k
  parts-joined part by below parts more k d lt =
      ⊎_elim
      (λ (t : (eqb k i ≡ true) × (k ≡ i)).
      subst (λ j. part (get_or (set now i new) j d) ≡ raised_until (part (get_or old j d)) (by j) (i + 1) j) (sym t.1) here)
      (λ (t : (eqb k i ≡ false) × (k ≢ i)).
      ap part (get_or-set_other now i k new d t.1) ∙ parts k d lt ∙ raised-apart (part (get_or old k d)) (by k) i k t.1)
      (eqb_tells k i)
    where
      was : part (get_or now i new) ≡ part (get_or old i d)
      was = ap part (get_or_default now i new d long) ∙ parts i d below ∙ raised-from (part (get_or old i d)) (by i) i i (le_refl i)

      here : part (get_or (set now i new) i d) ≡ raised_until (part (get_or old i d)) (by i) (i + 1) i
      here = ap part (get_or-set_same now i new d long) ∙ more ∙ ap (λ m. m + by i) was
          ∙ sym (raised-before (part (get_or old i d)) (by i) (i + 1) i (omega arith))

  -- the sum of the amounts rises by the next seat's
  pub amounts-joined : (theirs : List SeatState) (x : SeatState) (base : ℕ) → new.amount ≡ (get_or now i new).amount + x.amount
      → slice_get theirs i ≡ Some x → sum (amounts_of now) ≡ base + sum (amounts_of (take i theirs))
      → sum (amounts_of (set now i new)) ≡ base + sum (amounts_of (take (i + 1) theirs))
  amounts-joined theirs x base more at sums =
      let there : get_or theirs i new ≡ x = get_or_from_slice_get theirs i x new at in
      let wide : i < length (amounts_of now) = omega (arith, length-map now amount_in, long) in
      let here : get_or (amounts_of now) i 0 ≡ (get_or now i new).amount = get_or-map amount_in now i new 0 long in
      let grown : amounts_of (take (i + 1) theirs) ≡ amounts_of (take i theirs) ++ x.amount ∷ [] =
      ap amounts_of (take_more theirs i new (slice_get_within theirs i x at)) ∙ map-append amount_in (take i theirs) (get_or theirs i new ∷ [])
      ∙ (λ k. amounts_of (take i theirs) ++ (there k).amount ∷ []) in
      let put = sum_by-set (λ (a : ℕ). a) (amounts_of now) i new.amount 0 wide in
      let pushed = sum_by_push (λ (a : ℕ). a) (amounts_of (take i theirs)) x.amount in
      let final : sum (set (amounts_of now) i new.amount) ≡ base + sum (amounts_of (take i theirs) ++ x.amount ∷ []) =
      omega (arith, put, pushed, here, more, sums) in
      ap sum (map-set amount_in now i new) ∙ final ∙ ap (λ l. base + sum l) (sym grown)
