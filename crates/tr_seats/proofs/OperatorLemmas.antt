-- A desk's journal after a step more.
use Rattle.std.proofs.Common.{◌≡◌, ◌≢◌, ◌∙◌, ℕ, ◌+◌, ◌<◌, Bool, true, false, List, [], ◌∷◌, ◌++◌, ap, append_assoc, arith, eq-eqb, eqb, get_or, get_or-set_other, get_or-set_same, inl, length, ne_eqb, refl, set, subst, sym, ⊎_elim}
use Rattle.std.specs.Prelude.{◌==◌, IsTrue, if◌then◌else◌, slice_index_or}
use Rattle.std.specs.List.{AllByRecursion}
use Rattle.std.proofs.lemmas.Bool.Decides.{eqb_tells}
use Rattle.std.proofs.lemmas.List.{append-nil, get_or-map, get_or_push, length-map, length-set, length_push, map-append}
use Rattle.tr_accounts.proofs.Lists.{all-both}
use Rattle.tr_accounts.specs.Seats.{desk_seat}
use Rattle.tr_accounts.specs.declared.step.StreamStep.{StreamStep}
use Rattle.tr_journal.specs.Journals.{JournalState, SeatState, journal_after, new_seat, seat_after}
use Rattle.tr_journal.specs.Views.{all_done, line}
use Rattle.tr_journal.specs.declared.rule.Line.{Line}
use Rattle.tr_operations.proofs.OperationLemmas.{leads-more, leads-new}
use Rattle.tr_operations.specs.Operations.{IsStepOf, LeadsTo}
use Rattle.tr_operations.specs.declared.step.DeskStep.{DeskStep}
use Rattle.tr_seats.proofs.Rows.{get-front}
use Rattle.tr_seats.specs.Accounts.{IsOperatedBy, IsSeatAt}
use Rattle.tr_seats.specs.Books.{Books, PlanState, books_at, no_table}
use Rattle.tr_seats.specs.Desks.{noted_state}
use Rattle.tr_seats.specs.Histories.{operations_in}
use Rattle.tr_seats.specs.Operators.{AreNewDeskSeats, AreOperators, DidAll, DoTo, HasItsOwn, HaveDone, IsDeskJournal, IsDeskSeat, IsNumber, OperatorState, done_to, operators_of}
use Rattle.tr_seats.specs.Settling.{HaveOperated, streams_of}
use Rattle.tr_seats.specs.Slots.{SlotState, slot_state}
use Rattle.tr_session_book.specs.Book.{SessionBookState}
use Rattle.tr_stream.specs.State.{StreamState}

-- ---- what steps do to a stream

pub does-here : (k : ℕ) (done : List StreamStep) → (if k == k then done else []) ≡ done
does-here k done = ap (λ (b : Bool). if b then done else []) (eq-eqb k k refl)

pub does-elsewhere : (i k : ℕ) (done : List StreamStep) → i ≢ k → (if i == k then done else []) ≡ []
does-elsewhere i k done apart = ap (λ (b : Bool). if b then done else []) (ne_eqb i k apart)

does-push : (i : ℕ) (steps : List DeskStep) (step : DeskStep) (b c d : SessionBookState) (done : List StreamStep) → DoTo i steps b c done
    → IsStepOf step c d → DoTo i (steps ++ step ∷ []) b d (done ++ done_to i step c)
does-push i [] step b c d done was is = (
  d,
  subst (λ x. IsStepOf step x d) was.0 is,
  [],
  ap (λ (l : List StreamStep). l ++ done_to i step c) was.1 ∙ ap (λ x. done_to i step x) was.0 ∙ sym (append-nil (done_to i step b)),
  (refl, refl),
)
does-push i (s ∷ steps) step b c d done was is = (
  was.0,
  was.1,
  was.2 ++ done_to i step c,
  ap (λ (l : List StreamStep). l ++ done_to i step c) was.3 ∙ append_assoc (done_to i s b) was.2 (done_to i step c),
  does-push i steps step was.0 c d was.2 was.4 is,
)

does-more : (i : ℕ) (lines : List (Line DeskStep)) (b c d : SessionBookState) (who : ℕ) (step : DeskStep) (done : List StreamStep)
    → DoTo i (all_done lines) b c done → IsStepOf step c d
    → DoTo i (all_done (lines ++ line who step ∷ [])) b d (done ++ done_to i step c)
does-more i lines b c d who step done was is =
    subst (λ l. DoTo i l b d (done ++ done_to i step c)) (sym (map-append (λ (l : Line DeskStep). l.done) lines (line who step ∷ [])))
    (does-push i (all_done lines) step b c d done was is)

-- ---- a desk's journal

pub journal-planned : (plan : PlanState) (book : SessionBookState) (journal : JournalState DeskStep) (seats : List (SeatState StreamStep))
    → journal.table ≡ plan.desk → journal.lines ≡ [] → journal.made ≡ 1 → book ≡ plan.session.book
    → AreNewDeskSeats (length plan.books) plan.books seats → IsDeskJournal plan 0 book journal seats
journal-planned plan book journal seats at none one same new = record {
  table_is = at;
  first = omega (arith, one);
  count = inl (omega (arith, one));
  theirs = subst (AreOperators journal.made) (sym none) (record { numbered = tt; named = tt });
  leads = subst (λ lines. LeadsTo (all_done lines) planned book) (sym none) (subst (LeadsTo [] planned) (sym same) (leads-new planned));
  many = new.many;
  each = λ i d lt. record {
    seat_is = (new.each i d lt).0;
    did = subst (λ (lines : List (Line DeskStep)). DoTo i (all_done lines) planned book (slice_index_or seats i d).own) (sym none) (same, (new.each i d lt).1);
  };
}
  where
    planned : SessionBookState
    planned = plan.session.book

-- what a step leaves of what the desk did to a stream
seat-kept : (plan : PlanState) (i who : ℕ) (b c : SessionBookState) (lines : List (Line DeskStep)) (step : DeskStep) (before after : SeatState StreamStep)
    → IsDeskSeat plan i (all_done lines) b before → IsStepOf step b c → IsSeatAt (books_at plan.books i).journal desk_seat after
    → after.own ≡ before.own ++ done_to i step b → IsDeskSeat plan i (all_done (lines ++ line who step ∷ [])) c after
seat-kept plan i who b c lines step before after was is at own = record {
  seat_is = at;
  did = subst (DoTo i (all_done (lines ++ line who step ∷ [])) plan.session.book c) (sym own)
      (does-more i lines plan.session.book b c who step before.own was.did is);
}

module _ (plan : PlanState) (operators : ℕ) (b c : SessionBookState) (before after : JournalState DeskStep) (who : ℕ) (named : 0 < who)
    (there : who < before.made) (step : DeskStep) (seats : List (SeatState StreamStep)) (was : IsDeskJournal plan operators b before seats) (is : after ≡ journal_after who step before)
    (done : IsStepOf step b c) where
  step-noted : (news : List (SeatState StreamStep)) → length news ≡ length plan.books
      → ((i : ℕ) (d : SeatState StreamStep) → i < length plan.books
      → IsDeskSeat plan i (all_done (before.lines ++ line who step ∷ [])) c (slice_index_or news i d)) → IsDeskJournal plan operators c after news
  step-noted news many each = record {
    table_is = ap (λ (j : JournalState DeskStep). j.table) is ∙ was.table_is;
    first = subst (λ (j : JournalState DeskStep). 0 < j.made) (sym is) was.first;
    count = subst (λ (j : JournalState DeskStep). IsNumber operators (operators_of j.made)) (sym is) was.count;
    theirs = subst (λ (j : JournalState DeskStep). AreOperators j.made j.lines) (sym is) (record {
      numbered = all-both (λ (l : Line DeskStep). l.who < before.made) before.lines (line who step ∷ []) was.theirs.numbered (there, tt);
      named = all-both (λ (l : Line DeskStep). 0 < l.who) before.lines (line who step ∷ []) was.theirs.named (named, tt);
    });
    leads = subst (λ (j : JournalState DeskStep). LeadsTo (all_done j.lines) plan.session.book c) (sym is)
        (leads-more before.lines plan.session.book b c who step was.leads done);
    many = many;
    each = λ i d lt. subst (λ (j : JournalState DeskStep). IsDeskSeat plan i (all_done j.lines) c (slice_index_or news i d)) (sym is)
        (each i d lt);
  }

  kept : (i : ℕ) (d : SeatState StreamStep) → i < length plan.books → done_to i step b ≡ []
      → IsDeskSeat plan i (all_done (before.lines ++ line who step ∷ [])) c (slice_index_or seats i d)
  kept i d lt nothing =
      let seat = slice_index_or seats i d in
      seat-kept plan i who b c before.lines step seat seat (was.each i d lt) done (was.each i d lt).seat_is
      (sym (append-nil seat.own) ∙ ap (λ (l : List StreamStep). seat.own ++ l) (sym nothing))

  -- a step that does nothing to any stream
  pub journal-noted : ((i : ℕ) → done_to i step b ≡ []) → IsDeskJournal plan operators c after seats
  journal-noted nothing = step-noted seats was.many (λ i d lt. kept i d lt (nothing i))

  -- a step that does this to one stream, and nothing to others
  module _ (k : ℕ) (x : StreamStep) (seat new : SeatState StreamStep) (lt : k < length plan.books) (here : seat ≡ get_or seats k seat)
      (noted : new ≡ seat_after x seat) (does : done_to k step b ≡ x ∷ []) (others : (i : ℕ) → i ≢ k → done_to i step b ≡ []) where
    own : new.own ≡ seat.own ++ done_to k step b
    own = ap (λ (s : SeatState StreamStep). s.own) noted ∙ ap (λ (l : List StreamStep). seat.own ++ l) (sym does)

    mine : IsDeskSeat plan k (all_done (before.lines ++ line who step ∷ [])) c new
    mine =
        let old : IsDeskSeat plan k (all_done before.lines) b seat =
        subst (IsDeskSeat plan k (all_done before.lines) b) (sym here) (was.each k seat lt) in
        seat-kept plan k who b c before.lines step seat new old done
        (subst (IsSeatAt (books_at plan.books k).journal desk_seat) (sym noted) old.seat_is) own

    pub journal-done : IsDeskJournal plan operators c after (set seats k new)
    journal-done = step-noted (set seats k new) (length-set seats k new ∙ was.many) (λ i d below.
        ⊎_elim
        (λ (t : (eqb i k ≡ true) × (i ≡ k)).
        subst (λ j. IsDeskSeat plan j (all_done (before.lines ++ line who step ∷ [])) c (get_or (set seats k new) j d)) (sym t.1)
        (subst (IsDeskSeat plan k (all_done (before.lines ++ line who step ∷ [])) c)
        (sym (get_or-set_same seats k new d (omega (arith, lt, was.many)))) mine))
        (λ (t : (eqb i k ≡ false) × (i ≢ k)).
        subst (IsDeskSeat plan i (all_done (before.lines ++ line who step ∷ [])) c) (sym (get_or-set_other seats k i new d t.1))
        (kept i d below (others i t.1)))
        (eqb_tells i k))

-- ---- the desk's seats before the first step

pub new-desk-none : (books : List Books) → AreNewDeskSeats 0 books []
new-desk-none books = record { many = refl; each = λ i d lt. absurd (omega (arith, lt)) }

pub new-desk-more : (n : ℕ) (books : List Books) (seats : List (SeatState StreamStep)) (seat : SeatState StreamStep)
    → AreNewDeskSeats n books seats → IsSeatAt (books_at books n).journal desk_seat seat → seat.own ≡ []
    → AreNewDeskSeats (n + 1) books (seats ++ seat ∷ [])
new-desk-more n books seats seat is mine none = record {
  many = length_push seats seat ∙ ap (λ k. k + 1) is.many;
  each = λ k d below.
      ⊎_elim
      (λ (t : (eqb k n ≡ true) × (k ≡ n)).
      subst (IsNew k) (sym (get_or_push seats seat d k (is.many ∙ sym t.1)))
      (subst (λ j. IsNew j seat) (sym t.1) (mine, none)))
      (λ (t : (eqb k n ≡ false) × (k ≢ n)).
      subst (IsNew k) (sym (get-front seats seat d k (omega (arith, below, t.1, is.many)))) (is.each k d (omega (arith, below, t.1))))
      (eqb_tells k n);
}
  where
    IsNew : ℕ → SeatState StreamStep → Type 0
    IsNew k s = IsSeatAt (books_at books k).journal desk_seat s × (s.own ≡ [])

-- ---- what a desk did

-- a noted step makes no operator
pub noted-same : (b : SessionBookState) (before after : JournalState DeskStep) (who : ℕ) (step : DeskStep) → after ≡ journal_after who step before
    → noted_state b (operators_of after.made) ≡ noted_state b (operators_of before.made)
noted-same b before after who step is = ap (λ (j : JournalState DeskStep). noted_state b (operators_of j.made)) is

-- what was done at a desk, if these operators' lists are of its journal
pub done-by-all : (plan : PlanState) (made : ℕ) (book : SessionBookState) (journal : JournalState DeskStep) (seats : List (SeatState StreamStep))
    (operators : List OperatorState) (all : Bool) → IsDeskJournal plan made book journal seats
    → AllByRecursion (HasItsOwn journal.lines) operators → (IsTrue all → DidAll operators journal.lines)
    → HaveDone plan.session.book operators all book (operations_in seats)
done-by-all plan made book journal seats operators all is own none_missing = record {
  lines = journal.lines;
  leads = is.leads;
  own = own;
  none_missing = none_missing;
  did = λ i lt.
      let d : SeatState StreamStep = new_seat no_table 0 in
      let there : i < length seats = omega (arith, lt, length-map seats (λ (s : SeatState StreamStep). s.own)) in
      subst (DoTo i (all_done journal.lines) plan.session.book book)
      (sym (get_or-map (λ (s : SeatState StreamStep). s.own) seats i d [] there)) (is.each i d (omega (arith, there, is.many))).did;
}

-- and to all streams
pub operated-all : (plan : PlanState) (made : ℕ) (book : SessionBookState) (journal : JournalState DeskStep) (seats : List (SeatState StreamStep))
    (operators : List OperatorState) (all : Bool) (slots : List SlotState) → IsDeskJournal plan made book journal seats
    → AllByRecursion (HasItsOwn journal.lines) operators → (IsTrue all → DidAll operators journal.lines) → length slots ≡ length plan.books
    → ((i : ℕ) (d : SeatState StreamStep) (s : SlotState) → i < length slots → IsOperatedBy (get_or seats i d).own (get_or slots i s).stream)
    → HaveOperated plan.session.book operators all book (streams_of slots)
operated-all plan made book journal seats operators all slots is own none_missing many operated = record {
  operations = operations_in seats;
  many = length-map seats (λ (s : SeatState StreamStep). s.own) ∙ is.many ∙ sym many ∙ sym (length-map slots (λ (s : SlotState). s.stream));
  done = done-by-all plan made book journal seats operators all is own none_missing;
  are = λ i t lt.
      let d : SeatState StreamStep = new_seat no_table 0 in
      let s : SlotState = slot_state 0 t 0 in
      let there : i < length slots = omega (arith, lt, length-map slots (λ (s : SlotState). s.stream)) in
      let seat = get_or-map (λ (s : SeatState StreamStep). s.own) seats i d [] (omega (arith, there, many, is.many)) in
      let slot = get_or-map (λ (s : SlotState). s.stream) slots i s t there in
      subst (λ (x : List StreamStep × StreamState). IsOperatedBy x.0 x.1) (λ j. (sym seat j, sym slot j)) (operated i d s there);
}
