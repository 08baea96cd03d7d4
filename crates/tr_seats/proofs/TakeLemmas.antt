-- A drainer's seats in the streams' journals.
use Rattle.std.proofs.Common.{◌≡◌, ◌≢◌, ◌∙◌, ℕ, ◌+◌, ◌<◌, true, false, List, [], ◌∷◌, ◌++◌, Ok, length, set, get_or, ap, arith, eqb, get_or-set_other, get_or-set_same, subst, sym, ⊎_elim}
use Rattle.std.specs.Prelude.{replicate}
use Rattle.std.proofs.lemmas.Bool.Decides.{eqb_tells}
use Rattle.std.proofs.lemmas.List.{get_or-map, get_or_push, length-set, length_push, map-append, map-set, replicate_more}
use Rattle.std.proofs.lemmas.List.Elements.{filter_map-append}
use Rattle.tr_accounts.specs.StreamSteps.{take_step, taken_in, taken_of}
use Rattle.tr_accounts.specs.declared.step.StreamStep.{StreamStep}
use Rattle.tr_journal.specs.Journals.{SeatState, seat_after}
use Rattle.tr_seats.proofs.Rows.{get-front}
use Rattle.tr_seats.specs.Accounts.{AreTakeSeats, IsTakeSeat, taken_by}
use Rattle.tr_seats.specs.Books.{Books, books_at}
use Rattle.tr_stream.specs.declared.answers.Taken.{Taken}

abbrev taken_in_seat : SeatState StreamStep → List Taken
taken_in_seat s = taken_in s.own

-- what a seat has after one packet more
taken-push : (steps : List StreamStep) (taken : Taken) → taken_in (steps ++ take_step (Ok taken) ∷ []) ≡ taken_in steps ++ taken ∷ []
taken-push steps taken = filter_map-append (λ (step : StreamStep). taken_of step.answer) steps (take_step (Ok taken) ∷ [])

module _ (n : ℕ) (books : List Books) (seats : List (SeatState StreamStep)) (is : AreTakeSeats n books seats) where
  -- the seat at a place noted a packet
  module _ (i : ℕ) (old new : SeatState StreamStep) (taken : Taken) (lt : i < n) (there : old ≡ get_or seats i old)
      (noted : new ≡ seat_after (take_step (Ok taken)) old) where
    long : i < length seats
    long = omega (arith, lt, is.many)

    pub seats-after : AreTakeSeats n books (set seats i new)
    seats-after = record {
      many = length-set seats i new ∙ is.many;
      each = λ k d below.
          ⊎_elim
          (λ (t : (eqb k i ≡ true) × (k ≡ i)).
          subst (λ j. IsTakeSeat (books_at books j).journal (get_or (set seats i new) j d)) (sym t.1)
          (subst (IsTakeSeat (books_at books i).journal) (sym (get_or-set_same seats i new d long))
          (subst (IsTakeSeat (books_at books i).journal) (sym noted)
          (subst (IsTakeSeat (books_at books i).journal) (sym there) (is.each i old lt)))))
          (λ (t : (eqb k i ≡ false) × (k ≢ i)).
          subst (IsTakeSeat (books_at books k).journal) (sym (get_or-set_other seats i k new d t.1)) (is.each k d below))
          (eqb_tells k i);
    }

    pub taken-after : taken_by (set seats i new) ≡ set (taken_by seats) i (get_or (taken_by seats) i [] ++ taken ∷ [])
    taken-after =
        let mine : taken_in new.own ≡ get_or (taken_by seats) i [] ++ taken ∷ [] =
        ap taken_in_seat noted ∙ taken-push old.own taken
        ∙ ap (λ (l : List Taken). l ++ taken ∷ [])
        (ap taken_in_seat there ∙ sym (get_or-map taken_in_seat seats i old [] long)) in
        map-set taken_in_seat seats i new ∙ ap (set (taken_by seats) i) mine

  -- one seat more
  pub take-seats-more : (seat : SeatState StreamStep) → IsTakeSeat (books_at books n).journal seat → AreTakeSeats (n + 1) books (seats ++ seat ∷ [])
  take-seats-more seat mine = record {
    many = length_push seats seat ∙ ap (λ k. k + 1) is.many;
    each = λ k d below.
        ⊎_elim
        (λ (t : (eqb k n ≡ true) × (k ≡ n)).
        subst (λ (s : SeatState StreamStep). IsTakeSeat (books_at books k).journal s) (sym (get_or_push seats seat d k (is.many ∙ sym t.1)))
        (subst (λ j. IsTakeSeat (books_at books j).journal seat) (sym t.1) mine))
        (λ (t : (eqb k n ≡ false) × (k ≢ n)).
        subst (λ (s : SeatState StreamStep). IsTakeSeat (books_at books k).journal s)
        (sym (get-front seats seat d k (omega (arith, below, t.1, is.many)))) (is.each k d (omega (arith, below, t.1))))
        (eqb_tells k n);
  }

-- of which nothing was noted
pub untaken-more : (n : ℕ) (seats : List (SeatState StreamStep)) (seat : SeatState StreamStep) → taken_by seats ≡ replicate n [] → seat.own ≡ []
    → taken_by (seats ++ seat ∷ []) ≡ replicate (n + 1) []
untaken-more n seats seat none new =
    map-append taken_in_seat seats (seat ∷ []) ∙ (λ j. none j ++ taken_in (new j) ∷ []) ∙ replicate_more n []
