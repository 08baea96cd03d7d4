-- A drainer that is being made, one seat after another.
use Rattle.std.proofs.Common.{◌≡◌, ◌≢◌, ◌∙◌, ℕ, ◌+◌, ◌<◌, Bool, true, false, List, [], ◌∷◌, ◌++◌, Ok, length, take, ap, arith, eqb, get_or, refl, subst, sym, true≢false, ⊎_elim}
use Rattle.std.specs.Prelude.{◌==◌, nat_le, replicate}
use Rattle.std.proofs.lemmas.Bool.Decides.{eqb_tells, nat_tests}
use Rattle.std.proofs.lemmas.List.{length-map, length_push}
use Rattle.tr_accounts.specs.declared.step.StreamStep.{StreamStep}
use Rattle.tr_journal.specs.Journals as journal
use Rattle.tr_ledger.specs.Ledgers.{SeatState, seat_state}
use Rattle.tr_seats.proofs.Rows.{amounts-grown, consumed-at, row-grown}
use Rattle.tr_seats.proofs.TakeLemmas.{take-seats-more, untaken-more}
use Rattle.tr_seats.specs.Accounts.{AreTakeSeats, IsTakeSeat}
use Rattle.tr_seats.specs.Books.{Books, books_at, consumed_books, no_books, no_table}
use Rattle.tr_seats.specs.Drainers.{AreFirst}
use Rattle.tr_seats.specs.Slots.{AreSeatsOf, SlotState, slot_split_answer}
use Rattle.tr_terms.specs.declared.limits.TheConstants.{MOST_DRAINERS}

-- a seat that was made is of the book of that number
pub split-made : (books : List Books) (i : ℕ) (slot : SlotState) (seat : SeatState) → Ok seat ≡ slot_split_answer books i slot
    → seat ≡ seat_state (books_at books i).consumed 0 1
split-made books i slot seat is = go (i == slot.number) (nat_le MOST_DRAINERS slot.made) refl refl
  where
    go : (here full : Bool) → (i == slot.number) ≡ here → nat_le MOST_DRAINERS slot.made ≡ full
        → seat ≡ seat_state (books_at books i).consumed 0 1
    go true true at made = cc
    go true false at made =
        let same : i ≡ slot.number =
        ⊎_elim (λ (t : (eqb i slot.number ≡ true) × (i ≡ slot.number)). t.1)
        (λ (t : (eqb i slot.number ≡ false) × (i ≢ slot.number)). absurd (true≢false (sym at ∙ t.0))) (eqb_tells i slot.number) in
        let one : seat ≡ seat_state (books_at books slot.number).consumed 0 1 = cc in
        one ∙ ap (λ n. seat_state (books_at books n).consumed 0 1) (sym same)
    go false full at made = cc

-- it is made of the stream of that number alone
pub split-here : (books : List Books) (i : ℕ) (slot : SlotState) (seat : SeatState) → Ok seat ≡ slot_split_answer books i slot → i ≡ slot.number
split-here books i slot seat is = go (i == slot.number) refl
  where
    go : (here : Bool) → (i == slot.number) ≡ here → i ≡ slot.number
    go true at = grind (arith, nat_tests, at)
    go false at = cc

-- one seat more of each kind
pub first-more : (books : List Books) (seats : List SeatState) (takes : List (journal.SeatState StreamStep)) (seat : SeatState)
    (noted : journal.SeatState StreamStep) → AreFirst books seats takes
    → length seats < length books → seat ≡ seat_state (books_at books (length seats)).consumed 0 1
    → IsTakeSeat (books_at books (length seats)).journal noted → noted.own ≡ []
    → AreFirst books (seats ++ seat ∷ []) (takes ++ noted ∷ [])
first-more books seats takes seat noted is lt made theirs new =
    let k = length seats in
    let len : length (seats ++ seat ∷ []) ≡ k + 1 = length_push seats seat in
    let wide : k < length (consumed_books books) = omega (arith, lt, length-map books (λ (b : Books). b.consumed)) in
    let table : seat.table ≡ get_or (consumed_books books) k no_table =
    ap (λ (s : SeatState). s.table) made ∙ sym (consumed-at books k no_books lt) in
    record {
      within = omega (arith, len, lt);
      seats_are = subst (λ n. AreSeatsOf (take n (consumed_books books)) (seats ++ seat ∷ [])) (sym len)
          (row-grown (consumed_books books) seats k seat no_table is.seats_are wide table (ap (λ (s : SeatState). s.mark) made));
      none = amounts-grown seats k seat is.none (ap (λ (s : SeatState). s.amount) made) ∙ ap (λ n. replicate n 0) (sym len);
      takes_are = subst (λ n. AreTakeSeats n books (takes ++ noted ∷ [])) (sym len) (take-seats-more k books takes is.takes_are noted theirs);
      untaken = untaken-more k takes noted is.untaken new ∙ ap (λ n. replicate n []) (sym len);
    }
