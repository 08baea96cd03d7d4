-- Seats in a row, one for each stream.
use Rattle.std.proofs.Common.{true, false, eqb, ⊎_elim, ◌≡◌, ℕ, zero, suc, ◌+◌, ◌<◌, ◌≢◌, List, [], ◌∷◌, ◌++◌, length, get_or, map, set, take, drop, Some, ◌≤◌, add-one, refl, sym, ap, ◌∙◌, arith}
use Rattle.std.specs.Prelude.{slice_index, slice_get, replicate}
use Rattle.std.proofs.lemmas.List.{map-set, length-map, get_or-map, map-append, take_more, replicate_more, length_push, get_or_push}
use Rattle.std.proofs.lemmas.Bool.Decides.{eqb_tells}
use Rattle.std.proofs.lemmas.List.Elements.{All-set, All-append, All-cons, All-nil}
use Rattle.std.proofs.Math.Seq.{map-set_same}
use Rattle.atomic_table.specs.Seated.{TableId}
use Rattle.tr_ledger.specs.Ledgers.{SeatState, seat_state}
use Rattle.tr_seats.specs.Books.{Books, no_table, no_books, books_at, cleared_books, consumed_books, cut_books}
use Rattle.tr_seats.specs.Slots.{ProducerState, new_producer, SlotState, AreNew, AreSeatsOf, amounts_of}
use Rattle.tr_seats.specs.Settling.{AreInPlace}

abbrev table_in : SeatState → TableId
table_in s = s.table

abbrev amount_in : SeatState → ℕ
amount_in s = s.amount

abbrev pub IsMarkedOnce : SeatState → Type 0
IsMarkedOnce s = s.mark ≡ 1

pub length-seats : (tables : List TableId) (seats : List SeatState) → AreSeatsOf tables seats → length seats ≡ length tables
length-seats tables seats h = sym (length-map seats table_in) ∙ ap length h.0

-- the seat at a place is one of the book there
pub seat-at : (tables : List TableId) (seats : List SeatState) (i : ℕ) (d : SeatState) (t : TableId) → AreSeatsOf tables seats
    → i < length tables → (get_or seats i d).table ≡ get_or tables i t
seat-at tables seats i d t h lt =
    let here : i < length seats = omega (arith, length-seats tables seats h) in
    sym (get_or-map table_in seats i d t here) ∙ ap (λ (l : List TableId). get_or l i t) h.0

-- another seat of the same book may take its place
pub seats-set : (tables : List TableId) (seats : List SeatState) (i : ℕ) (s d : SeatState) → AreSeatsOf tables seats
    → s.table ≡ (get_or seats i d).table → s.mark ≡ 1 → AreSeatsOf tables (set seats i s)
seats-set tables seats i s d h same mark = (map-set_same table_in seats i s d same ∙ h.0, All-set IsMarkedOnce seats i s mark h.1)

pub amount-at : (seats : List SeatState) (i : ℕ) (d : SeatState) → i < length seats → slice_index (amounts_of seats) i ≡ (get_or seats i d).amount
amount-at seats i d lt = get_or-map amount_in seats i d 0 lt

pub consumed-at : (books : List Books) (i : ℕ) (d : Books) → i < length books → get_or (consumed_books books) i no_table ≡ (get_or books i d).consumed
consumed-at books i d lt = get_or-map (λ (b : Books). b.consumed) books i d no_table lt

pub cuts-at : (books : List Books) (i : ℕ) (d : Books) → i < length books → get_or (cut_books books) i no_table ≡ (get_or books i d).cuts
cuts-at books i d lt = get_or-map (λ (b : Books). b.cuts) books i d no_table lt

pub cleared-at : (books : List Books) (i : ℕ) (d : Books) → i < length books → get_or (cleared_books books) i no_table ≡ (get_or books i d).cleared
cleared-at books i d lt = get_or-map (λ (b : Books). b.cleared) books i d no_table lt

module _ (tables : List TableId) (seats : List SeatState) (i : ℕ) (old : SeatState) (h : AreSeatsOf tables seats) (lt : i < length tables)
    (is : old ≡ get_or seats i old) where
  pub table-there : (t : TableId) → old.table ≡ get_or tables i t
  table-there t = ap table_in is ∙ seat-at tables seats i old t h lt

  pub mark-there : old.mark ≡ 1
  mark-there = ap (λ (s : SeatState). s.mark) is ∙ h.1 i old (omega (arith, length-seats tables seats h))

  -- a seat in the row is raised
  pub row-raised : (new : SeatState) (n : ℕ) → new ≡ seat_state old.table (old.amount + n) old.mark → AreSeatsOf tables (set seats i new)
  row-raised new n e = seats-set tables seats i new old h (ap table_in e ∙ ap table_in is) (ap (λ (s : SeatState). s.mark) e ∙ mark-there)

  pub amounts-raised : (new : SeatState) (n : ℕ) → new ≡ seat_state old.table (old.amount + n) old.mark
      → amounts_of (set seats i new) ≡ set (amounts_of seats) i (slice_index (amounts_of seats) i + n)
  amounts-raised new n e =
      let here : i < length seats = omega (arith, length-seats tables seats h) in
      let value : new.amount ≡ slice_index (amounts_of seats) i + n =
      ap amount_in e ∙ ap (λ k. k + n) (ap amount_in is ∙ sym (amount-at seats i old here)) in
      map-set amount_in seats i new ∙ ap (set (amounts_of seats) i) value

pub get-front : {X : Type 0} → (xs : List X) (y d : X) (i : ℕ) → i < length xs → get_or (xs ++ y ∷ []) i d ≡ get_or xs i d
get-front [] y d i lt = absurd (omega arith)
get-front (x ∷ xs) y d zero lt = refl
get-front (x ∷ xs) y d (suc i) lt = get-front xs y d i (omega arith)

-- one seat more
pub row-grown : (tables : List TableId) (seats : List SeatState) (k : ℕ) (s : SeatState) (t : TableId) → AreSeatsOf (take k tables) seats
    → k < length tables → s.table ≡ get_or tables k t → s.mark ≡ 1 → AreSeatsOf (take (k + 1) tables) (seats ++ s ∷ [])
row-grown tables seats k s t h lt same mark = (
  map-append table_in seats (s ∷ []) ∙ (λ j. h.0 j ++ same j ∷ []) ∙ sym (take_more tables k t lt),
  All-append IsMarkedOnce seats (s ∷ []) h.1 (All-cons IsMarkedOnce s [] mark (All-nil IsMarkedOnce)),
)

pub amounts-grown : (seats : List SeatState) (k : ℕ) (s : SeatState) → amounts_of seats ≡ replicate k 0 → s.amount ≡ 0
    → amounts_of (seats ++ s ∷ []) ≡ replicate (k + 1) 0
amounts-grown seats k s h none = map-append amount_in seats (s ∷ []) ∙ (λ j. h j ++ none j ∷ []) ∙ replicate_more k 0

pub new-grown : (k : ℕ) (producers : List ProducerState) (p : ProducerState) → AreNew k producers → p ≡ new_producer k
    → AreNew (k + 1) (producers ++ p ∷ [])
new-grown k producers p h is = (omega (arith, length_push producers p, h.0), each)
  where
    each : (i : ℕ) (d : ProducerState) → i < k + 1 → get_or (producers ++ p ∷ []) i d ≡ new_producer i
    each i d lt =
        ⊎_elim
        (λ (e : (eqb i k ≡ true) × (i ≡ k)).
        get_or_push producers p d i (h.0 ∙ sym e.1) ∙ is ∙ ap (λ j. new_producer j) (sym e.1))
        (λ (e : (eqb i k ≡ false) × (i ≢ k)).
        get-front producers p d i (omega (arith, lt, e.1, h.0)) ∙ h.1 i d (omega (arith, lt, e.1)))
        (eqb_tells i k)

-- the front of what is left of a list
pub drop-front : {X : Type 0} → (xs : List X) (k : ℕ) (x : X) (rest : List X) → drop k xs ≡ x ∷ rest
    → (slice_get xs k ≡ Some x) × (drop (k + 1) xs ≡ rest) × (k + 1 ≤ length xs)
drop-front [] zero x rest e = cc
drop-front [] (suc k) x rest e = cc
drop-front (y ∷ ys) zero x rest e = (cc, cc, omega arith)
drop-front (y ∷ ys) (suc k) x rest e =
    let t = drop-front ys k x rest e in
    (t.0, rw (add-one) (rw (add-one) at t.1), omega (arith, t.2))

pub table-in_row : (tables : List TableId) (seats : List SeatState) (i : ℕ) (d : SeatState) (t : TableId) → map table_in seats ≡ tables
    → i < length tables → (get_or seats i d).table ≡ get_or tables i t
table-in_row tables seats i d t h lt =
    let here : i < length seats = omega (arith, length-map seats table_in, ap length h) in
    sym (get_or-map table_in seats i d t here) ∙ ap (λ (l : List TableId). get_or l i t) h

-- the seat beside a stream is of that stream's book
pub consumed-beside : (books : List Books) (seats : List SeatState) (slots : List SlotState) (i : ℕ) (d : SeatState) (s : SlotState)
    → map table_in seats ≡ consumed_books books → length slots ≡ length books → AreInPlace slots → i < length slots
    → (get_or seats i d).table ≡ (books_at books (get_or slots i s).number).consumed
consumed-beside books seats slots i d s h len place lt =
    let below : i < length books = omega arith in
    let wide : i < length (consumed_books books) = omega (arith, length-map books (λ (b : Books). b.consumed)) in
    table-in_row (consumed_books books) seats i d no_table h wide ∙ consumed-at books i no_books below
    ∙ ap (λ n. (books_at books n).consumed) (sym (place i s lt))

pub cuts-beside : (books : List Books) (seats : List SeatState) (slots : List SlotState) (i : ℕ) (d : SeatState) (s : SlotState)
    → map table_in seats ≡ cut_books books → length slots ≡ length books → AreInPlace slots → i < length slots
    → (get_or seats i d).table ≡ (books_at books (get_or slots i s).number).cuts
cuts-beside books seats slots i d s h len place lt =
    let below : i < length books = omega arith in
    let wide : i < length (cut_books books) = omega (arith, length-map books (λ (b : Books). b.cuts)) in
    table-in_row (cut_books books) seats i d no_table h wide ∙ cuts-at books i no_books below ∙ ap (λ n. (books_at books n).cuts) (sym (place i s lt))

pub cleared-beside : (books : List Books) (seats : List SeatState) (slots : List SlotState) (i : ℕ) (d : SeatState) (s : SlotState)
    → map table_in seats ≡ cleared_books books → length slots ≡ length books → AreInPlace slots → i < length slots
    → (get_or seats i d).table ≡ (books_at books (get_or slots i s).number).cleared
cleared-beside books seats slots i d s h len place lt =
    let below : i < length books = omega arith in
    let wide : i < length (cleared_books books) = omega (arith, length-map books (λ (b : Books). b.cleared)) in
    table-in_row (cleared_books books) seats i d no_table h wide ∙ cleared-at books i no_books below
    ∙ ap (λ n. (books_at books n).cleared) (sym (place i s lt))
