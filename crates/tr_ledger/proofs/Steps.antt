-- Each kind of step keeps the rule of a ledger.
use Rattle.std.proofs.Common.{◌≡◌, ◌≢◌, ℕ, ◌+◌, ◌<◌, List, [], ◌∷◌, ◌++◌, set, refl, sym, ap, ◌∙◌, subst, arith}
use Rattle.std.specs.List.{All}
use Rattle.std.proofs.lemmas.List.Sums.{sum_by_push}
use Rattle.std.proofs.lemmas.List.Elements.{All-set, All-append, All-cons, All-nil}
use mathlib.Core.Option.{some}
use lib.ListN.{get_elem?}
use Rattle.atomic_table.proofs.Lists.{set_else, set_again}
use Rattle.tr_ledger.specs.declared.rule.View.{View}
use Rattle.tr_ledger.specs.Views.{book_view, seat_view, with_one_more, without_seat, seat_of, with_seat, raised}
use Rattle.tr_ledger.specs.Views.{IsWithin, IsBookAlone, IsMarked, AreCounted}
use Rattle.tr_ledger.proofs.Sums.{sum_at, all_at, sum_holds, sum_only}

abbrev books_in : View → ℕ
books_in v = v.books

abbrev total_in : View → ℕ
total_in v = v.total

abbrev made_in : View → ℕ
made_in v = v.made

abbrev amount_in : View → ℕ
amount_in v = v.amount

abbrev mark_in : View → ℕ
mark_in v = v.mark

-- a token's view among all views, whose rule holds
module _ (id : ℕ) (v : View) (views : List View) (h : AreCounted views) (at : get_elem? views id ≡ some v) where
  alone : IsBookAlone v
  alone = all_at IsBookAlone views id v at h.books

  marked : IsMarked v
  marked = all_at IsMarked views id v at h.marked

  -- a seat's view is joined to another, and has nothing left
  pub joins : (other : ℕ) (seat : View) → seat.books ≡ 0 → other ≢ id
      → get_elem? (set views id (with_seat v seat)) other ≡ some seat
      → AreCounted (set (set views id (with_seat v seat)) other (seat_view 0 0))
  joins other seat no_book apart there =
      let both = with_seat v seat in
      let mid = set views id both in
      let spent = seat_view 0 0 in
      let theirs : get_elem? views other ≡ some seat = sym (set_else views id other both apart) ∙ there in
      let seat_alone = all_at IsBookAlone views other seat theirs h.books no_book in
      let seat_marked = all_at IsMarked views other seat theirs h.marked in
      let both_marked : IsMarked both = λ e. omega (arith, marked (omega (arith, e)), seat_marked (omega (arith, e))) in
      let here = λ (f : View → ℕ). sum_at f views id v both at in
      let gone = λ (f : View → ℕ). sum_at f mid other seat spent there in
      record {
        one_book = omega (arith, h.one_book, no_book, here books_in, gone books_in);
        amounts = omega (
          arith,
          h.amounts,
          seat_alone.0,
          here amount_in,
          gone amount_in,
          here total_in,
          gone total_in,
        );
        marks = omega (arith, h.marks, seat_alone.1, here mark_in, gone mark_in, here made_in, gone made_in);
        books = All-set IsBookAlone mid other spent (λ _. (refl, refl)) (All-set IsBookAlone views id both alone h.books);
        marked = All-set IsMarked mid other spent (λ _. refl) (All-set IsMarked views id both both_marked h.marked);
      }

  -- the view is changed and a seat's view is new: if the sums of both are as before but for one mark and one seat made
  grows : (left right : View) → IsBookAlone left → IsMarked left → IsBookAlone right → IsMarked right
      → left.books + right.books ≡ v.books → left.total + right.total ≡ v.total → left.amount + right.amount ≡ v.amount
      → left.mark + right.mark + v.made ≡ v.mark + (left.made + right.made)
      → AreCounted (set views id left ++ right ∷ [])
  grows left right left_alone left_marked right_alone right_marked books total amount mark =
      let mid = set views id left in
      let here = λ (f : View → ℕ). sum_at f views id v left at in
      let new = λ (f : View → ℕ). sum_by_push f mid right in
      record {
        one_book = omega (arith, h.one_book, books, here books_in, new books_in);
        amounts = omega (arith, h.amounts, total, amount, here amount_in, new amount_in, here total_in, new total_in);
        marks = omega (arith, h.marks, mark, here mark_in, new mark_in, here made_in, new made_in);
        books = All-append IsBookAlone mid (right ∷ [])
            (All-set IsBookAlone views id left left_alone h.books)
            (All-cons IsBookAlone right [] right_alone (All-nil IsBookAlone));
        marked = All-append IsMarked mid (right ∷ [])
            (All-set IsMarked views id left left_marked h.marked)
            (All-cons IsMarked right [] right_marked (All-nil IsMarked));
      }

  -- what is joined to a view becomes a seat's view
  pub parts : AreCounted (set views id (without_seat v) ++ seat_of v ∷ [])
  parts =
      grows (without_seat v) (seat_of v) alone (λ _. refl) (λ _. (refl, refl)) marked
      (omega arith) (omega arith) (omega arith) (omega arith)

  -- the book's view makes a new seat
  pub makes : v.books ≡ 1 → AreCounted (set views id (with_one_more v) ++ seat_view 0 1 ∷ [])
  makes is_book =
      grows (with_one_more v) (seat_view 0 1) (λ e. absurd (omega (arith, is_book, e))) marked (λ _. (refl, refl)) (λ e. refl)
      (omega arith) (omega arith) (omega arith) (omega arith)

  -- what is joined to the book is a share of its total
  knows : v.books ≡ 1 → IsWithin v
  knows is_book =
      let alone = h.one_book ∙ sym is_book in
      let total = sum_only books_in total_in views id v at (λ k d lt e. (h.books k d lt e).0) alone in
      let made = sum_only books_in made_in views id v at (λ k d lt e. (h.books k d lt e).1) alone in (
        omega (arith, h.amounts, total, sum_holds amount_in views id v at),
        omega (arith, h.marks, made, sum_holds mark_in views id v at),
        (λ whole.
            omega (arith, h.amounts, total, sum_only mark_in amount_in views id v at h.marked (omega (arith, h.marks, made, whole)))),
      )

  -- a look at the book's view changes nothing, and shows what is known there
  pub learns : v.books ≡ 1 → AreCounted (set views id v) × IsWithin v
  learns is_book = (subst AreCounted (sym (set_again views id v at)) h, knows is_book)

  -- the book's total rises with what is joined to it, if there is a mark
  pub raises : v.books ≡ 1 → 0 < v.mark → (n : ℕ) → AreCounted (set views id (raised n v)) × IsWithin v
  raises is_book some_mark n =
      let w = raised n v in
      let here = λ (f : View → ℕ). sum_at f views id v w at in (
        record {
          one_book = omega (arith, h.one_book, here books_in);
          amounts = omega (arith, h.amounts, here amount_in, here total_in);
          marks = omega (arith, h.marks, here mark_in, here made_in);
          books = All-set IsBookAlone views id w (λ e. absurd (omega (arith, is_book, e))) h.books;
          marked = All-set IsMarked views id w (λ e. absurd (omega (arith, some_mark, e))) h.marked;
        },
        knows is_book,
      )

-- a view, and no slot
abbrev Held : Type 0
Held = View × List (ℕ × Unit {0})

-- the book's token, to which a seat is joined
module _ (total made : ℕ) (book joined : Held) (seat : View)
    (is_book : book ≡ (book_view total made 0 0, [])) (is_joined : joined ≡ (with_seat book.0 seat, book.1)) where
  pub has_book : joined.0.books ≡ 1
  has_book = ap (λ (h : Held). h.0.books) is_joined ∙ ap (λ (h : Held). h.0.books) is_book

  pub has_mark : joined.0.mark ≡ seat.mark
  has_mark = omega (arith, ap (λ (h : Held). h.0.mark) is_joined, ap (λ (h : Held). h.0.mark) is_book)
