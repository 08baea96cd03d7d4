-- Streams that get their names, one after another.
use Rattle.std.proofs.Common.{◌≡◌, ◌∙◌, ℕ, ◌+◌, ◌<◌, ◌≤◌, zero, suc, List, [], ◌∷◌, ◌++◌, Some, drop, length, take, ap, arith, get_or, refl, subst, sym}
use Rattle.std.specs.Prelude.{option_map, replicate, slice_get, slice_index}
use Rattle.std.proofs.lemmas.List.{length-map, length_push}
use Rattle.std.proofs.lemmas.List.Elements.{All-nil}
use Rattle.std.proofs.lemmas.Option.{get_or_from_slice_get, slice_get_within}
use Rattle.std.proofs.lemmas.Grind.{common_steps}
use Rattle.atomic_table.specs.Seated.{TableId}
use Rattle.tr_ledger.specs.Ledgers.{LedgerState, SeatState, ledger_state, seat_state}
use Rattle.tr_seats.proofs.Rows.{amounts-grown, cleared-at, consumed-at, cuts-at, new-grown, row-grown}
use Rattle.tr_seats.specs.Books.{AreBooksOf, Books, IsPlan, IsPlanned, PlanState, books_of, cleared_books, consumed_books, cut_books, no_books, no_table}
use Rattle.tr_seats.specs.Desks.{IsDesk, desk_state, noted_state}
use Rattle.tr_seats.specs.Plans.{AreNamed, AreUnused, IsOpened, IsUnused, opened_of, slots_from}
use Rattle.tr_seats.specs.Seats.{AreSeatsOfProducer}
use Rattle.tr_seats.specs.Settling.{opened_state}
use Rattle.tr_seats.specs.Slots.{AreNew, AreSeatsOf, ProducerState, SlotState, amounts_of, new_producer, slot_state}
use Rattle.tr_session_book.specs.BookSteps.{chunks_closed}
use Rattle.tr_seats.specs.Sums.{totals_in}
use Rattle.tr_stream.specs.State.{StreamState}
use Rattle.tr_stream.specs.StateSteps.{new_state}

-- the books of a stream on which nothing was done, as they were opened
pub books-opened : (books : Books) (stream : StreamState) (o d v p k c l : LedgerState) (os ds vs ps ks cs ls : SeatState)
    → (journal : TableId) → books_of o.table d.table v.table p.table k.table c.table l.table journal ≡ books → IsUnused stream
    → IsOpened o os → IsOpened d ds → IsOpened v vs → IsOpened p ps → IsOpened k ks → IsOpened c cs → IsOpened l ls
    → AreBooksOf books stream k.made o d v p k c l
books-opened books stream o d v p k c l os ds vs ps ks cs ls journal is unused io id iv ip ik ic il =
    let none : totals_in stream ≡ totals_in (new_state stream.config) = ap totals_in unused in
    let made : k.made ≡ 0 = ap (λ (l : LedgerState). l.made) ik.0 in
    record {
      offered_is = io.0 ∙ (λ j. ledger_state (is j).offered (sym none j).offered 0);
      discarded_is = id.0 ∙ (λ j. ledger_state (is j).discarded (sym none j).discarded 0);
      overwritten_is = iv.0 ∙ (λ j. ledger_state (is j).overwritten (sym none j).overwritten 0);
      packets_is = ip.0 ∙ (λ j. ledger_state (is j).overwritten_packets (sym none j).overwritten_packets 0);
      consumed_is = ik.0 ∙ (λ j. ledger_state (is j).consumed (sym none j).consumed (sym made j));
      cuts_is = ic.0 ∙ (λ j. ledger_state (is j).cuts (sym none j).cuts 0);
      cleared_is = il.0 ∙ (λ j. ledger_state (is j).cleared (sym none j).cleared 0);
    }

-- and their whole seats
pub seats-opened : (books : Books) (o d v p : LedgerState) (os ds vs ps : SeatState) → o.table ≡ books.offered
    → d.table ≡ books.discarded → v.table ≡ books.overwritten → p.table ≡ books.overwritten_packets
    → IsOpened o os → IsOpened d ds → IsOpened v vs → IsOpened p ps → AreSeatsOfProducer books os ds vs ps
seats-opened books o d v p os ds vs ps to td tv tp io id iv ip = record {
  offered_is = io.1 ∙ (λ j. seat_state (to j) (sym (ap (λ (s : SeatState). s.amount) io.1) j) 1);
  discarded_is = id.1 ∙ (λ j. seat_state (td j) (sym (ap (λ (s : SeatState). s.amount) id.1) j) 1);
  overwritten_is = iv.1 ∙ (λ j. seat_state (tv j) (sym (ap (λ (s : SeatState). s.amount) iv.1) j) 1);
  packets_is = ip.1 ∙ (λ j. seat_state (tp j) (sym (ap (λ (s : SeatState). s.amount) ip.1) j) 1);
}

pub planned-there : (plan : PlanState) (i : ℕ) (t : StreamState) → slice_get plan.session.streams i ≡ Some t → IsPlanned plan i t.config
planned-there plan i t got = ap (option_map (λ (x : StreamState). x.config)) got

-- one stream more
pub slots-more : (streams : List StreamState) (k from : ℕ) (t : StreamState) → slice_get streams k ≡ Some t
    → slots_from from (take k streams) ++ slot_state (from + k) t 0 ∷ [] ≡ slots_from from (take (suc k) streams)
slots-more [] k from t got = cc
slots-more (x ∷ xs) zero from t got =
    let e : t ≡ x = cc in
    let n : from + 0 ≡ from = omega arith in
    λ j. slot_state (n j) (e j) 0 ∷ []
slots-more (x ∷ xs) (suc k) from t got =
    let n : from + suc k ≡ suc from + k = omega arith in
    (λ j. slot_state from x 0 ∷ (slots_from (suc from) (take k xs) ++ slot_state (n j) t 0 ∷ []))
    ∙ ap (λ (rest : List SlotState). slot_state from x 0 ∷ rest) (slots-more xs k (suc from) t got)

pub take-all : {X : Type 0} (xs : List X) (n : ℕ) → n ≡ length xs → take n xs ≡ xs
take-all [] zero is = refl
take-all [] (suc n) is = refl
take-all (x ∷ xs) zero is = absurd (omega (arith, is))
take-all (x ∷ xs) (suc n) is = ap (λ (rest : List _). x ∷ rest) (take-all xs n (grind (arith, common_steps, is)))

nothing-at : (n i : ℕ) → i < n → slice_index (replicate n 0) i ≡ 0
nothing-at zero i within = absurd (omega (arith, within))
nothing-at (suc n) zero within = refl
nothing-at (suc n) (suc i) within = nothing-at n i (grind (arith, common_steps, within))

there-within : {X : Type 0} (xs : List X) (i : ℕ) → i < length xs → (x : X) × (slice_get xs i ≡ Some x)
there-within [] i lt = absurd (omega (arith, lt))
there-within (x ∷ xs) zero lt = (x, refl)
there-within (x ∷ xs) (suc i) lt = there-within xs i (grind (arith, common_steps, lt))

-- the first streams have their names
pub named-none : (plan : PlanState) → AreNamed plan [] [] [] [] []
named-none plan = record {
  within = omega arith;
  slots_are = refl;
  producers_are = (refl, λ i p lt. absurd (omega (arith, lt)));
  consumed_are = (refl, All-nil (λ (s : SeatState). s.mark ≡ 1));
  cuts_are = (refl, All-nil (λ (s : SeatState). s.mark ≡ 1));
  cleared_are = (refl, All-nil (λ (s : SeatState). s.mark ≡ 1));
  consumed_none = refl;
  cuts_none = refl;
  cleared_none = refl;
}

module _ (plan : PlanState) (slots : List SlotState) (producers : List ProducerState) (consumed cuts cleared : List SeatState)
    (is : AreNamed plan slots producers consumed cuts cleared) where
  pub named-more : (t : StreamState) (b : Books) → slice_get plan.session.streams (length slots) ≡ Some t
      → slice_get plan.books (length slots) ≡ Some b
      → AreNamed plan (slots ++ slot_state (length slots) t 0 ∷ []) (producers ++ new_producer (length slots) ∷ [])
      (consumed ++ seat_state b.consumed 0 1 ∷ []) (cuts ++ seat_state b.cuts 0 1 ∷ []) (cleared ++ seat_state b.cleared 0 1 ∷ [])
  named-more t b got at =
      let k = length slots in
      let lt : k < length plan.books = slice_get_within plan.books k b at in
      let there : get_or plan.books k no_books ≡ b = get_or_from_slice_get plan.books k b no_books at in
      let len : length (slots ++ slot_state k t 0 ∷ []) ≡ k + 1 = length_push slots (slot_state k t 0) in
      let consumed_table : b.consumed ≡ get_or (consumed_books plan.books) k no_table =
      ap (λ (x : Books). x.consumed) (sym there) ∙ sym (consumed-at plan.books k no_books lt) in
      let cuts_table : b.cuts ≡ get_or (cut_books plan.books) k no_table =
      ap (λ (x : Books). x.cuts) (sym there) ∙ sym (cuts-at plan.books k no_books lt) in
      let cleared_table : b.cleared ≡ get_or (cleared_books plan.books) k no_table =
      ap (λ (x : Books). x.cleared) (sym there) ∙ sym (cleared-at plan.books k no_books lt) in
      let wide : k < length (consumed_books plan.books) = omega (arith, lt, length-map plan.books (λ (x : Books). x.consumed)) in
      let wide_cuts : k < length (cut_books plan.books) = omega (arith, lt, length-map plan.books (λ (x : Books). x.cuts)) in
      let wide_cleared : k < length (cleared_books plan.books) = omega (arith, lt, length-map plan.books (λ (x : Books). x.cleared)) in
      let number : k ≡ 0 + k = omega arith in
      let next : suc k ≡ length (slots ++ slot_state k t 0 ∷ []) = omega (arith, len) in
      record {
        within = omega (arith, len, lt);
        slots_are = (λ j. is.slots_are j ++ slot_state (number j) t 0 ∷ []) ∙ slots-more plan.session.streams k 0 t got
            ∙ ap (λ n. slots_from 0 (take n plan.session.streams)) next;
        producers_are = subst (λ n. AreNew n (producers ++ new_producer k ∷ [])) (sym len)
            (new-grown k producers (new_producer k) is.producers_are refl);
        consumed_are = subst (λ n. AreSeatsOf (take n (consumed_books plan.books)) (consumed ++ seat_state b.consumed 0 1 ∷ []))
            (sym len)
            (row-grown (consumed_books plan.books) consumed k (seat_state b.consumed 0 1) no_table is.consumed_are wide consumed_table refl);
        cuts_are = subst (λ n. AreSeatsOf (take n (cut_books plan.books)) (cuts ++ seat_state b.cuts 0 1 ∷ []))
            (sym len) (row-grown (cut_books plan.books) cuts k (seat_state b.cuts 0 1) no_table is.cuts_are wide_cuts cuts_table refl);
        cleared_are = subst (λ n. AreSeatsOf (take n (cleared_books plan.books)) (cleared ++ seat_state b.cleared 0 1 ∷ []))
            (sym len)
            (row-grown (cleared_books plan.books) cleared k (seat_state b.cleared 0 1) no_table is.cleared_are wide_cleared cleared_table refl);
        consumed_none = amounts-grown consumed k (seat_state b.consumed 0 1) is.consumed_none refl ∙ ap (λ n. replicate n 0) (sym len);
        cuts_none = amounts-grown cuts k (seat_state b.cuts 0 1) is.cuts_none refl ∙ ap (λ n. replicate n 0) (sym len);
        cleared_none = amounts-grown cleared k (seat_state b.cleared 0 1) is.cleared_none refl ∙ ap (λ n. replicate n 0) (sym len);
      }

  module _ (planned : IsPlan plan) (all : length slots ≡ length plan.books) where
    -- all of them
    pub desk-planned : AreUnused plan.session.streams → IsDesk plan plan.session.book consumed cuts cleared
    desk-planned unused = record {
      planned = planned;
      book_is = record { uuid = refl; offset = refl; mode = refl; channels = refl; threads = refl; events = refl };
      consumed_are = subst (λ (tables : List TableId). AreSeatsOf tables consumed)
          (take-all (consumed_books plan.books) (length slots) (all ∙ sym (length-map plan.books (λ (x : Books). x.consumed))))
          is.consumed_are;
      cuts_are = subst (λ (tables : List TableId). AreSeatsOf tables cuts)
          (take-all (cut_books plan.books) (length slots) (all ∙ sym (length-map plan.books (λ (x : Books). x.cuts))))
          is.cuts_are;
      cleared_are = subst (λ (tables : List TableId). AreSeatsOf tables cleared)
          (take-all (cleared_books plan.books) (length slots) (all ∙ sym (length-map plan.books (λ (x : Books). x.cleared))))
          is.cleared_are;
      operator = λ i lt.
          let here = there-within plan.session.streams i (omega (arith, lt, planned.books)) in
          let closed : length here.0.parts.closed ≡ chunks_closed i plan.session.book = (planned.session.are i here.0 here.1).closed in
          let none : length here.0.parts.closed ≡ 0 = ap (λ (t : StreamState). (totals_in t).cuts) (unused i here.0 here.1) in
          ap (λ (xs : List ℕ). slice_index xs i) is.cuts_none ∙ nothing-at (length slots) i (omega (arith, lt, all))
          ∙ sym none ∙ closed;
    }

    pub opened-planned : opened_state (desk_state (noted_state plan.session.book 0) 0 (amounts_of consumed) (amounts_of cuts) (amounts_of cleared)) slots ≡ opened_of plan
    opened-planned =
        let streams : take (length slots) plan.session.streams ≡ plan.session.streams =
        take-all plan.session.streams (length slots) (all ∙ planned.books) in
        let slots_are : slots ≡ slots_from 0 plan.session.streams = is.slots_are ∙ ap (slots_from 0) streams in
        let none : replicate (length slots) 0 ≡ replicate (length plan.books) 0 = ap (λ n. replicate n 0) all in
        let consumed_is : amounts_of consumed ≡ replicate (length plan.books) 0 = is.consumed_none ∙ none in
        let cuts_is : amounts_of cuts ≡ replicate (length plan.books) 0 = is.cuts_none ∙ none in
        let cleared_is : amounts_of cleared ≡ replicate (length plan.books) 0 = is.cleared_none ∙ none in
        λ j. opened_state (desk_state (noted_state plan.session.book 0) 0 (consumed_is j) (cuts_is j) (cleared_is j)) (slots_are j)

-- nothing is left of a list
pub drop-none : {X : Type 0} (xs rest : List X) (k : ℕ) → drop k xs ≡ rest → length rest ≡ 0 → k ≤ length xs → k ≡ length xs
drop-none [] rest k is none within = omega (arith, within)
drop-none (x ∷ xs) rest zero is none within = absurd (omega (arith, none, ap length is))
drop-none (x ∷ xs) rest (suc k) is none within = ap suc (drop-none xs rest k is none (grind (arith, common_steps, within)))
