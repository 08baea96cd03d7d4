-- Each kind of step keeps the rule of a journal.
use Rattle.std.proofs.Common.{◌≡◌, ◌≢◌, ℕ, zero, suc, ◌<◌, ⊎_elim, List, [], ◌∷◌, ◌++◌, length, set, Some, None, refl, sym, ap, ◌∙◌, subst, arith}
use Rattle.std.specs.List.{AllByRecursion}
use mathlib.Core.Option.{some, some-injective, some-ne-none}
use lib.ListN.{get_elem?}
use Rattle.atomic_table.proofs.Lists.{at_set, set_again}
use Rattle.tr_journal.specs.declared.rule.Line.{Line}
use Rattle.tr_journal.specs.declared.rule.Log.{Log}
use Rattle.tr_journal.specs.declared.rule.Part.{Part}
use Rattle.tr_journal.specs.declared.rule.View.{View}
use Rattle.tr_journal.specs.Journals.{joined_in, log_or_first, own_in, view_of}
use Rattle.tr_journal.specs.Views.{first_log, first_view, nobody, book_view, with_one_more, newcomer, without_seat, seat_of, seat_view, with_seat, log_after, one_more, noted, ArePartsOf, AreNumbered, IsPartOf, IsShown, Fits, AreOne}
use Rattle.tr_journal.proofs.Lines.{all-both, all-more, all-with, apart-append, at_end, changed, changed_else, changed_here, done_by-none, moved, moved_else, moved_here, numbered-more, others-more, part-more}

module _ {E : Type 0} where
  log_is : (a b : Log E) → Some a ≡ Some b → a ≡ b
  log_is a b e = ap log_or_first e

  -- a view without a log and without a part
  empty : (log : Log E) (book_at : ℕ) (seat_at : ℕ → ℕ) (at : ℕ) → Fits log book_at seat_at at nobody
  empty log book_at seat_at at = record { book = λ l e. absurd cc; places = tt; each = tt; apart = tt }

  module _ (P : ℕ → View E → Type 0) (views : List (View E)) where
    set_fits : (id : ℕ) (w : View E) → ((at : ℕ) (v : View E) → at ≢ id → get_elem? views at ≡ some v → P at v) → P id w
        → (at : ℕ) (v : View E) → get_elem? (set views id w) at ≡ some v → P at v
    set_fits id w others mine at v e =
        ⊎_elim
        (λ (t : (at ≡ id) × (w ≡ v)). subst (λ (y : ℕ × View E). P y.0 y.1) (λ i. (sym t.0 i, t.1 i)) mine)
        (λ (t : (at ≢ id) × (get_elem? views at ≡ some v)). others at v t.0 t.1)
        (at_set views id at w v e)

    push_fits : (w : View E) → ((at : ℕ) (v : View E) → get_elem? views at ≡ some v → P at v) → P (length views) w
        → (at : ℕ) (v : View E) → get_elem? (views ++ w ∷ []) at ≡ some v → P at v
    push_fits w others mine at v e =
        ⊎_elim
        (λ was. others at v was)
        (λ (t : (at ≡ length views) × (w ≡ v)). subst (λ (y : ℕ × View E). P y.0 y.1) (λ i. (sym t.0 i, t.1 i)) mine)
        (at_end views w v at e)

  -- a view fits after parts that aren't in it moved
  stays : (log : Log E) (book_at : ℕ) (seat_at : ℕ → ℕ) (ps : List (Part E)) (to from k : ℕ) (u : View E)
      → AllByRecursion (λ p. from ≡ seat_at p.who) ps → k ≢ from → Fits log book_at seat_at k u → Fits log book_at (moved seat_at ps to) k u
  stays log book_at seat_at ps to from k u were apart f = record {
    book = f.book;
    places = all-more (λ (q : Part E). k ≡ seat_at q.who) (λ (q : Part E). k ≡ moved seat_at ps to q.who) (λ q e. e ∙ sym (moved_else seat_at ps to from q.who were (λ same. apart (e ∙ same)))) u.parts f.places;
    each = f.each;
    apart = f.apart;
  }

  pub opens : AreOne {E = E} (first_view ∷ [])
  opens = record { log = first_log; book_at = 0; seat_at = λ _. 0; fits = one; numbered = tt }
    where
      first : Fits {E = E} first_log 0 (λ _. 0) 0 first_view
      first = record { book = λ l e. (refl, sym (log_is _ _ e)); places = (refl, tt); each = ((omega arith, refl), tt); apart = (tt, tt) }

      one : (at : ℕ) (v : View E) → get_elem? (first_view ∷ []) at ≡ some v → Fits first_log 0 (λ _. 0) at v
      one zero v e = subst (Fits first_log 0 (λ _. 0) 0) (some-injective _ _ e) first
      one (suc at) v e = absurd (some-ne-none v (sym e))

  -- a token's view among all views, whose rule holds
  module _ (id : ℕ) (v : View E) (views : List (View E)) (h : AreOne views) (at : get_elem? views id ≡ some v) where
    mine : Fits h.log h.book_at h.seat_at id v
    mine = h.fits id v at

    -- a seat's view is joined to another, and has nothing left
    pub joins : (other : ℕ) (seat : View E) → seat.log ≡ None → other ≢ id
        → get_elem? (set views id (with_seat v seat)) other ≡ some seat
        → AreOne (set (set views id (with_seat v seat)) other nobody)
    joins other seat no_log away there =
        let both = with_seat v seat in
        let was = ⊎_elim (λ (t : (other ≡ id) × (both ≡ seat)). absurd (away t.0)) (λ (t : (other ≢ id) × (get_elem? views other ≡ some seat)). t.1) (at_set views id other both seat there) in
        let theirs = h.fits other seat was in
        let seat_at = moved h.seat_at seat.parts id in
        let Q : ℕ → View E → Type 0 = λ k u. k ≢ other → Fits h.log h.book_at seat_at k u in
        let kept = stays h.log h.book_at h.seat_at seat.parts id other id v theirs.places (λ e. away (sym e)) mine in
        let joined : Fits h.log h.book_at seat_at id both = record {
          book = mine.book;
          places = all-both _ v.parts seat.parts kept.places (moved_here h.seat_at seat.parts id);
          each = all-both _ v.parts seat.parts mine.each theirs.each;
          apart = apart-append h.seat_at id other away v.parts seat.parts mine.places theirs.places mine.apart theirs.apart;
        } in
        record {
          log = h.log;
          book_at = h.book_at;
          seat_at = seat_at;
          fits = set_fits (Fits h.log h.book_at seat_at) (set views id both) other nobody
              (λ k u ne e.
              set_fits Q views id both (λ j w _ is ne. stays h.log h.book_at h.seat_at seat.parts id other j w theirs.places ne (h.fits j w is)) (λ _. joined) k u e ne)
              (empty h.log h.book_at seat_at other);
          numbered = h.numbered;
        }

    -- what is joined to a view becomes a seat's view
    pub parts : AreOne (set views id (without_seat v) ++ seat_of v ∷ [])
    parts =
        let left = without_seat v in
        let next : ℕ = length (set views id left) in
        let seat_at = moved h.seat_at v.parts next in
        record {
          log = h.log;
          book_at = h.book_at;
          seat_at = seat_at;
          fits = push_fits (Fits h.log h.book_at seat_at) (set views id left) (seat_of v)
              (set_fits (Fits h.log h.book_at seat_at) views id left
              (λ k u ne e. stays h.log h.book_at h.seat_at v.parts next id k u mine.places ne (h.fits k u e))
              (record { book = mine.book; places = tt; each = tt; apart = tt }))
              (record {
                book = λ l e. absurd cc;
                places = moved_here h.seat_at v.parts next;
                each = mine.each;
                apart = mine.apart;
              });
          numbered = h.numbered;
        }

    -- what is joined to the journal is its own
    knows : IsShown v
    knows log is =
        subst (λ (l : Log E). ArePartsOf l.made l.lines v.parts) (sym (mine.book log is).1)
        (record { numbered = h.numbered; each = mine.each; apart = mine.apart })

    -- a look changes nothing
    pub learns : AreOne (set views id v) × IsShown v
    learns = (subst AreOne (sym (set_again views id v at)) h, knows)

  -- the first joined seat's holder did something
  both_note : (id : ℕ) (log : Log E) (p : Part E) (ps : List (Part E)) (views : List (View E)) → AreOne views
      → get_elem? views id ≡ some (with_seat (book_view log) (seat_view (p ∷ ps))) → (d : E)
      → AreOne (set views id (noted d (with_seat (book_view log) (seat_view (p ∷ ps)))))
  both_note id log p ps views h at d =
      let f = h.fits id _ at in
      let b = f.book log refl in
      let after : Log E = log_after p.who d h.log in
      let w = noted d (with_seat (book_view log) (seat_view (p ∷ ps))) in
      record {
        log = after;
        book_at = h.book_at;
        seat_at = h.seat_at;
        fits = set_fits (Fits after h.book_at h.seat_at) views id w
            (λ k u ne e.
            let g = h.fits k u e in
            record {
              book = λ l is. absurd (ne ((g.book l is).0 ∙ sym b.0));
              places = g.places;
              each = others-more h.log.made p.who d h.log.lines u.parts
                  (all-more (λ (q : Part E). k ≡ h.seat_at q.who) (λ (q : Part E). p.who ≢ q.who) (λ q t same. ne (t ∙ ap h.seat_at (sym same) ∙ sym f.places.0)) u.parts g.places) g.each;
              apart = g.apart;
            })
            (record {
              book = λ l is. (b.0, sym (log_is _ _ is) ∙ ap (log_after p.who d) b.1);
              places = f.places;
              each = (part-more h.log.made d h.log.lines p f.each.0, others-more h.log.made p.who d h.log.lines ps f.apart.0 f.each.1);
              apart = f.apart;
            });
        numbered = numbered-more h.log.made p.who d h.log.lines f.each.0.0 h.numbered;
      }

  pub notes : (id : ℕ) (v : View E) (log : Log E) (p : Part E) (ps : List (Part E)) (views : List (View E)) → AreOne views
      → get_elem? views id ≡ some v → v ≡ with_seat (book_view log) (seat_view (p ∷ ps)) → (d : E)
      → AreOne (set views id (noted d v)) × IsShown v
  notes id v log p ps views h at is d = (
    subst (λ u. get_elem? views id ≡ some u → AreOne (set views id (noted d u))) (sym is) (λ at. both_note id log p ps views h at d) at,
    knows id v views h at,
  )

  -- the journal makes a new seat
  book_makes : (id : ℕ) (log : Log E) (views : List (View E)) → AreOne views → get_elem? views id ≡ some (book_view log)
      → AreOne (set views id (with_one_more (book_view log)) ++ newcomer (book_view log) ∷ [])
  book_makes id log views h at =
      let f = h.fits id _ at in
      let b = f.book log refl in
      let left = with_one_more (book_view log) in
      let after : Log E = one_more h.log in
      let next : ℕ = length (set views id left) in
      let made : log.made ≡ h.log.made = ap (λ (l : Log E). l.made) b.1 in
      let seat_at = changed h.seat_at log.made next in
      record {
        log = after;
        book_at = h.book_at;
        seat_at = seat_at;
        fits = push_fits (Fits after h.book_at seat_at) (set views id left) (newcomer (book_view log))
            (set_fits (Fits after h.book_at seat_at) views id left
            (λ k u ne e.
            let g = h.fits k u e in
            record {
              book = λ l is. absurd (ne ((g.book l is).0 ∙ sym b.0));
              places = all-with (λ (q : Part E). k ≡ h.seat_at q.who) (IsPartOf h.log.made h.log.lines) (λ (q : Part E). k ≡ seat_at q.who)
                  (λ q t own. t ∙ sym (changed_else h.seat_at log.made q.who next (λ same. omega (arith, own.0, same, made)))) u.parts g.places g.each;
              each = all-more (IsPartOf h.log.made h.log.lines) (IsPartOf after.made h.log.lines) (λ q own. (omega (arith, own.0), own.1)) u.parts g.each;
              apart = g.apart;
            })
            (record { book = λ l is. (b.0, sym (log_is _ _ is) ∙ ap one_more b.1); places = tt; each = tt; apart = tt }))
            (record {
              book = λ l is. absurd cc;
              places = (sym (changed_here h.seat_at log.made next), tt);
              each = ((omega (arith, made), sym (done_by-none log.made h.log.lines (subst (λ n. AreNumbered n h.log.lines) (sym made) h.numbered))), tt);
              apart = (tt, tt);
            });
        numbered = all-more (λ (l : Line E). l.who < h.log.made) (λ (l : Line E). l.who < after.made) (λ l lt. omega (arith, lt)) h.log.lines h.numbered;
      }

  pub makes : (id : ℕ) (v : View E) (log : Log E) (views : List (View E)) → AreOne views → get_elem? views id ≡ some v
      → v ≡ book_view log → AreOne (set views id (with_one_more v) ++ newcomer v ∷ [])
  makes id v log views h at is =
      subst (λ u. get_elem? views id ≡ some u → AreOne (set views id (with_one_more u) ++ newcomer u ∷ [])) (sym is) (λ at. book_makes id log views h at) at

  -- the journal's view, after a seat sat down
  pub sat : {H : Type 0} → (before after : View E × H) (held none : H) (got views : List (View E)) (log : Log E)
      → after ≡ (with_seat before.0 (view_of got), held) → before ≡ (book_view log, none) → got ≡ views
      → views ≡ seat_view (own_in views ∷ joined_in views) ∷ []
      → after.0 ≡ with_seat (book_view log) (seat_view (own_in views ∷ joined_in views))
  sat before after held none got views log is book same seat =
      ap (λ m. m.0) is ∙ ap (λ m. with_seat m.0 (view_of got)) book ∙ ap (λ vs. with_seat (book_view log) (view_of vs)) same
      ∙ ap (λ vs. with_seat (book_view log) (view_of vs)) seat

  -- what a step shows of the seat that sat down
  pub shows : (after : View E) (log : Log E) (parts : List (Part E)) → after ≡ with_seat (book_view log) (seat_view parts) → IsShown after
      → ArePartsOf log.made log.lines parts
  shows after log parts is known = subst (λ u. IsShown u → ArePartsOf log.made log.lines parts) (sym is) (λ k. k log refl) known
