-- The tellers of a plan's streams.
use Rattle.std.proofs.Common.{◌≡◌, ◌∙◌, ℕ, ◌+◌, ◌<◌, ◌≤◌, ◌⊎◌, ⊎_elim, suc, List, [], ◌∷◌, ◌++◌, Some, ap, arith, drop, get_or, length, map, refl, subst, sym, take}
use Rattle.std.specs.Prelude.{slice_get}
use Rattle.std.proofs.lemmas.List.FromFn.{get_or-map-range_with_len, length-map-range_with_len}
use Rattle.std.proofs.lemmas.List.{length_push, map-append, take_more}
use Rattle.std.proofs.lemmas.Option.{get_or_from_slice_get, slice_get_within}
use Rattle.atomic_table.specs.Seated.{TableId}
use Rattle.tr_seats.proofs.NameLemmas.{drop-none}
use Rattle.tr_seats.proofs.Rows.{drop-front}
use Rattle.tr_seats.specs.Plans.{AreTellersFrom}
use Rattle.tr_tally.specs.Tallies.{TellerState, new_tellers, teller_state}

-- the first of them, and those after it
pub tellers-front : (k : ℕ) (table : TableId) (t : TellerState) (rest : List TellerState) → AreTellersFrom k table (t ∷ rest)
    → (t ≡ teller_state table k 0) × AreTellersFrom (k + 1) table rest
tellers-front k table t rest are = (
  are 0 t refl ∙ ap (λ n. teller_state table n 0) (omega arith),
  λ i u got. are (suc i) u got ∙ ap (λ n. teller_state table n 0) (omega arith),
)

-- those of a new tally
pub tellers-new : (table : TableId) (n : ℕ) (tellers : List TellerState) → tellers ≡ new_tellers table n → AreTellersFrom 0 table tellers
tellers-new table n tellers are i t got =
    let new : slice_get (new_tellers table n) i ≡ Some t = sym (ap (λ (ts : List TellerState). slice_get ts i) are) ∙ got in
    let lt : i < n =
    omega (arith, slice_get_within (new_tellers table n) i t new, length-map-range_with_len (λ k. teller_state table k 0) 0 n) in
    sym (get_or_from_slice_get (new_tellers table n) i t t new)
    ∙ get_or-map-range_with_len (λ k. teller_state table k 0) 0 n i (0 + i) t lt refl

-- one element more of a list has its image
module _ {P X : Type 0} (f : P → X) (made : List P) (p : P) (xs rest : List X) (x : X) (same : f p ≡ x)
    (left : drop (length made) xs ≡ x ∷ rest) where
  pub left-after : drop (length (made ++ p ∷ [])) xs ≡ rest
  left-after = ap (λ (m : ℕ). drop m xs) (length_push made p) ∙ (drop-front xs (length made) x rest left).1

  pub made-within : length (made ++ p ∷ []) ≤ length xs
  made-within = subst (λ (m : ℕ). m ≤ length xs) (sym (length_push made p)) (drop-front xs (length made) x rest left).2

  pub made-more : map f made ≡ take (length made) xs → map f (made ++ p ∷ []) ≡ take (length (made ++ p ∷ [])) xs
  made-more is =
      let k = length made in
      let front = drop-front xs k x rest left in
      let lt : k < length xs = omega (arith, front.2) in
      let there : get_or xs k x ≡ x = get_or_from_slice_get xs k x x front.0 in
      map-append f made (p ∷ []) ∙ (λ j. is j ++ (same ∙ sym there) j ∷ []) ∙ sym (take_more xs k x lt)
      ∙ ap (λ (m : ℕ). take m xs) (sym (length_push made p))

-- of two lists of one length one is at its end
pub all-made : {X Y : Type 0} (xs xs_left : List X) (ys ys_left : List Y) (k : ℕ) → length xs ≡ length ys → drop k xs ≡ xs_left
    → drop k ys ≡ ys_left → k ≤ length xs → k ≤ length ys → (length xs_left ≡ 0) ⊎ (length ys_left ≡ 0) → k ≡ length xs
all-made xs xs_left ys ys_left k each first second within within_too ends =
    ⊎_elim (λ none. drop-none xs xs_left k first none within) (λ none. drop-none ys ys_left k second none within_too ∙ sym each) ends
