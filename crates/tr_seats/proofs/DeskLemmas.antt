-- A cut at a desk: its book notes it, and two seats rise. A clear: one seat rises.
use Rattle.std.proofs.Common.{◌≡◌, ◌≢◌, ◌∙◌, ℕ, ◌+◌, ◌<◌, Bool, true, false, List, Some, Ok, Err, Result, length, ap, arith, get_or, refl, set, sym}
use Rattle.std.specs.Prelude.{◌==◌, if◌then◌else◌, max, nat_lt, slice_index}
use Rattle.std.proofs.lemmas.List.{get_or-set_other, length-map}
use Rattle.std.proofs.lemmas.Bool.Decides.{nat_tests}
use Rattle.std.proofs.lemmas.Grind.{get_or-set_at}
use Rattle.tr_ledger.specs.Ledgers.{SeatState, seat_state}
use Rattle.tr_seats.proofs.Rows.{amounts-raised, length-seats, row-raised}
use Rattle.tr_seats.specs.Books.{Books, PlanState, cleared_books, consumed_books, cut_books}
use Rattle.tr_seats.specs.Desks.{IsDesk}
use Rattle.tr_seats.specs.Slots.{amounts_of}
use Rattle.tr_session.proofs.StreamLemmas.{due-next}
use Rattle.tr_session_book.specs.Book.{SessionBookState}
use Rattle.tr_session_book.specs.BookSteps.{book_after_note_cut, book_after_snapshot_begin, chunks_closed, cut_moment, snapshot_allowed, unless_refused, with_cut}
use Rattle.tr_session_book.specs.declared.archive.Pending.{Pending}
use Rattle.tr_session_book.specs.declared.faults.SessionFault.{SessionFault}

-- a cut of stream i closes a chunk of it, and none of another
closed-more : (b : SessionBookState) (i end k : ℕ) → cut_moment i b ≡ Ok end
    → chunks_closed k (with_cut b) ≡ chunks_closed k b + (if k == i then 1 else 0)
closed-more b i end k due = go (nat_lt k cut) (k == i) refl refl
  where
    next : (p : Pending) × (b.pending ≡ Some p) × (p.cut ≡ i)
    next = due-next i end b due

    cut : ℕ
    cut = next.0.cut

    go : (was same : Bool) → nat_lt k cut ≡ was → (k == i) ≡ same
        → chunks_closed k (with_cut b) ≡ chunks_closed k b + (if same then 1 else 0)
    go true true is at = absurd (grind (arith, nat_tests, is, at, next.2))
    go true false is at =
        let now : nat_lt k (cut + 1) ≡ true = grind (arith, nat_tests, is) in
        let pending = next.1 in
        rw (pending, is, now) (omega arith)
    go false true is at =
        let now : nat_lt k (cut + 1) ≡ true = grind (arith, nat_tests, at, next.2) in
        let pending = next.1 in
        rw (pending, is, now) (omega arith)
    go false false is at =
        let now : nat_lt k (cut + 1) ≡ false = grind (arith, nat_tests, is, at, next.2) in
        let pending = next.1 in
        rw (pending, is, now) (omega arith)

-- a cut that is due is noted
pub noted : (i end : ℕ) (b : SessionBookState) → cut_moment i b ≡ Ok end → book_after_note_cut i b ≡ with_cut b
noted i end b due = ap (λ (r : Result ℕ SessionFault). unless_refused r (with_cut b) b) due

set-more : (xs : List ℕ) (i k n : ℕ) → i < length xs
    → slice_index (set xs i (slice_index xs i + n)) k ≡ slice_index xs k + (if k == i then n else 0)
set-more xs i k n lt = go (k == i) refl
  where
    go : (same : Bool) → (k == i) ≡ same → slice_index (set xs i (slice_index xs i + n)) k ≡ slice_index xs k + (if same then n else 0)
    go true at =
        let here : k ≡ i = grind (arith, nat_tests, at) in
        get_or-set_at xs i k (slice_index xs i + n) 0 here lt ∙ ap (λ (j : ℕ). slice_index xs j + n) (sym here)
    go false at =
        let apart : k ≢ i = λ e. absurd (grind (arith, nat_tests, at, e)) in
        get_or-set_other xs i k (slice_index xs i + n) 0 apart ∙ omega arith

-- one seat of each kind rises when a stream is cut
module _ (plan : PlanState) (b : SessionBookState) (consumed cuts cleared : List SeatState) (i end : ℕ) (one two : SeatState)
    (is : IsDesk plan b consumed cuts cleared) (due : cut_moment i b ≡ Ok end) (within : i < length plan.books)
    (one_is : one ≡ get_or consumed i one) (two_is : two ≡ get_or cuts i two) where
  wide-consumed : i < length (consumed_books plan.books)
  wide-consumed = omega (arith, within, length-map plan.books (λ (b : Books). b.consumed))

  wide-cuts : i < length (cut_books plan.books)
  wide-cuts = omega (arith, within, length-map plan.books (λ (b : Books). b.cuts))

  operator-cut : (new : SeatState) → new ≡ seat_state two.table (two.amount + 1) two.mark → (k : ℕ) → k < length plan.books
      → slice_index (amounts_of (set cuts i new)) k ≡ chunks_closed k (with_cut b)
  operator-cut new e k lt =
      let rows = amounts-raised (cut_books plan.books) cuts i two is.cuts_are wide-cuts two_is new 1 e in
      let long : i < length (amounts_of cuts) =
      omega (arith, wide-cuts, length-seats (cut_books plan.books) cuts is.cuts_are, length-map cuts (λ (s : SeatState). s.amount)) in
      ap (λ (xs : List ℕ). slice_index xs k) rows ∙ set-more (amounts_of cuts) i k 1 long
      ∙ ap (λ (n : ℕ). n + (if k == i then 1 else 0)) (is.operator k lt) ∙ sym (closed-more b i end k due)

  pub desk-cut : (moved : ℕ) (one' two' : SeatState) → one' ≡ seat_state one.table (one.amount + moved) one.mark
      → two' ≡ seat_state two.table (two.amount + 1) two.mark → IsDesk plan (with_cut b) (set consumed i one') (set cuts i two') cleared
  desk-cut moved one' two' first second = record {
    planned = is.planned;
    book_is = record {
      uuid = is.book_is.uuid;
      offset = is.book_is.offset;
      mode = is.book_is.mode;
      channels = is.book_is.channels;
      threads = is.book_is.threads;
      events = is.book_is.events;
    };
    consumed_are = row-raised (consumed_books plan.books) consumed i one is.consumed_are wide-consumed one_is one' moved first;
    cuts_are = row-raised (cut_books plan.books) cuts i two is.cuts_are wide-cuts two_is two' 1 second;
    cleared_are = is.cleared_are;
    operator = λ k lt. operator-cut two' second k lt;
  }

-- the seat of the cleared records rises when a stream is cleared
module _ (plan : PlanState) (b : SessionBookState) (consumed cuts cleared : List SeatState) (i : ℕ) (one : SeatState)
    (is : IsDesk plan b consumed cuts cleared) (within : i < length plan.books) (one_is : one ≡ get_or cleared i one) where
  wide-cleared : i < length (cleared_books plan.books)
  wide-cleared = omega (arith, within, length-map plan.books (λ (b : Books). b.cleared))

  pub desk-cleared : (n : ℕ) (new : SeatState) → new ≡ seat_state one.table (one.amount + n) one.mark
      → IsDesk plan b consumed cuts (set cleared i new)
  desk-cleared n new e = record {
    planned = is.planned;
    book_is = is.book_is;
    consumed_are = is.consumed_are;
    cuts_are = is.cuts_are;
    cleared_are = row-raised (cleared_books plan.books) cleared i one is.cleared_are wide-cleared one_is new n e;
    operator = is.operator;
  }

-- the moment of a snapshot is stored
pub desk-shown : (plan : PlanState) (b : SessionBookState) (consumed cuts cleared : List SeatState) (moment : ℕ)
    → IsDesk plan b consumed cuts cleared → IsDesk plan (book_after_snapshot_begin moment b) consumed cuts cleared
desk-shown plan b consumed cuts cleared moment is = go (snapshot_allowed b)
  where
    go : (r : Result Unit SessionFault) → IsDesk plan (unless_refused r (record b { last = max moment b.last }) b) consumed cuts cleared
    go (Err fault) = is
    go (Ok done) = record {
      planned = is.planned;
      book_is = record {
        uuid = is.book_is.uuid;
        offset = is.book_is.offset;
        mode = is.book_is.mode;
        channels = is.book_is.channels;
        threads = is.book_is.threads;
        events = is.book_is.events;
      };
      consumed_are = is.consumed_are;
      cuts_are = is.cuts_are;
      cleared_are = is.cleared_are;
      operator = is.operator;
    }
