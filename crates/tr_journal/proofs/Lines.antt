-- What a log has of each seat, after one line more; and where the parts of seats are, after some moved.
use Rattle.std.proofs.Common.{◌≡◌, ◌≢◌, ◌<◌, ℕ, zero, suc, ◌⊎◌, inl, inr, ⊎_elim, Bool, List, [], ◌∷◌, ◌++◌, length, cond, true, false, eqb, refl, sym, ap, ◌∙◌, eq-eqb, ne_eqb, arith}
use Rattle.std.specs.List.{AllByRecursion}
use Rattle.std.proofs.lemmas.Bool.Decides.{eqb_tells}
use mathlib.Core.Option.{some, some-injective, some-ne-none}
use lib.ListN.{get_elem?}
use Rattle.tr_journal.specs.declared.rule.Line.{Line}
use Rattle.tr_journal.specs.declared.rule.Part.{Part}
use Rattle.tr_journal.specs.Views.{AreApart, AreNumbered, IsPartOf, done_by, line, part_after}

module _ {X : Type 0} where
  pub all-more : (P Q : X → Type 0) → ((x : X) → P x → Q x) → (xs : List X) → AllByRecursion P xs → AllByRecursion Q xs
  all-more P Q f [] h = tt
  all-more P Q f (x ∷ xs) h = (f x h.0, all-more P Q f xs h.1)

  pub all-with : (P Q R : X → Type 0) → ((x : X) → P x → Q x → R x) → (xs : List X) → AllByRecursion P xs → AllByRecursion Q xs → AllByRecursion R xs
  all-with P Q R f [] h k = tt
  all-with P Q R f (x ∷ xs) h k = (f x h.0 k.0, all-with P Q R f xs h.1 k.1)

  pub all-both : (P : X → Type 0) (xs ys : List X) → AllByRecursion P xs → AllByRecursion P ys → AllByRecursion P (xs ++ ys)
  all-both P [] ys h k = k
  all-both P (x ∷ xs) ys h k = (h.0, all-both P xs ys h.1 k)

module _ {E : Type 0} where
  pub done_by-same : (who : ℕ) (ls : List (Line E)) (d : E) → done_by who (ls ++ line who d ∷ []) ≡ done_by who ls ++ d ∷ []
  done_by-same who [] d = rw (eq-eqb who who refl) refl
  done_by-same who (l ∷ ls) d =
      ⊎_elim
      (λ (t : (eqb l.who who ≡ true) × (l.who ≡ who)). rw t.0 (ap (λ xs. l.done ∷ xs) (done_by-same who ls d)))
      (λ (t : (eqb l.who who ≡ false) × (l.who ≢ who)). rw t.0 (done_by-same who ls d))
      (eqb_tells l.who who)

  pub done_by-other : (who : ℕ) (ls : List (Line E)) (l : Line E) → l.who ≢ who → done_by who (ls ++ l ∷ []) ≡ done_by who ls
  done_by-other who [] l apart = rw (ne_eqb l.who who apart) refl
  done_by-other who (k ∷ ks) l apart =
      ⊎_elim
      (λ (t : (eqb k.who who ≡ true) × (k.who ≡ who)). rw t.0 (ap (λ xs. k.done ∷ xs) (done_by-other who ks l apart)))
      (λ (t : (eqb k.who who ≡ false) × (k.who ≢ who)). rw t.0 (done_by-other who ks l apart))
      (eqb_tells k.who who)

  pub done_by-none : (who : ℕ) (ls : List (Line E)) → AreNumbered who ls → done_by who ls ≡ []
  done_by-none who [] h = refl
  done_by-none who (l ∷ ls) h = rw (ne_eqb l.who who (λ same. omega (arith, h.0, same))) (done_by-none who ls h.1)

  pub numbered-more : (made who : ℕ) (d : E) (ls : List (Line E)) → who < made → AreNumbered made ls → AreNumbered made (ls ++ line who d ∷ [])
  numbered-more made who d ls below h = all-both (λ (l : Line E). l.who < made) ls (line who d ∷ []) h (below, tt)

  -- the part of the number that did something, and parts of other numbers
  pub part-more : (made : ℕ) (d : E) (ls : List (Line E)) (p : Part E) → IsPartOf made ls p → IsPartOf made (ls ++ line p.who d ∷ []) (part_after d p)
  part-more made d ls p h = (h.0, ap (λ ds. ds ++ d ∷ []) h.1 ∙ sym (done_by-same p.who ls d))

  pub others-more : (made who : ℕ) (d : E) (ls : List (Line E)) (ps : List (Part E)) → AllByRecursion (λ q. who ≢ q.who) ps
      → AllByRecursion (IsPartOf made ls) ps → AllByRecursion (IsPartOf made (ls ++ line who d ∷ [])) ps
  others-more made who d ls ps apart h =
      all-with (λ (q : Part E). who ≢ q.who) (IsPartOf made ls) (IsPartOf made (ls ++ line who d ∷ []))
      (λ q ne own. (own.0, own.1 ∙ sym (done_by-other q.who ls (line who d) ne))) ps apart h

module _ {A : Type 0} where
  abbrev pub changed : (ℕ → A) → ℕ → A → ℕ → A
  changed f i a j = cond (eqb j i) a (f j)

  pub changed_here : (f : ℕ → A) (i : ℕ) (a : A) → changed f i a i ≡ a
  changed_here f i a = rw (eq-eqb i i refl) refl

  pub changed_else : (f : ℕ → A) (i j : ℕ) (a : A) → j ≢ i → changed f i a j ≡ f j
  changed_else f i j a ne = rw (ne_eqb j i ne) refl

-- numbers' places, after some parts moved to one place
module _ {E : Type 0} where
  abbrev pub moved : (ℕ → ℕ) → List (Part E) → ℕ → ℕ → ℕ
  moved seat_at [] to = seat_at
  moved seat_at (p ∷ ps) to = changed (moved seat_at ps to) p.who to

  pub moved_else : (seat_at : ℕ → ℕ) (ps : List (Part E)) (to from who : ℕ) → AllByRecursion (λ p. from ≡ seat_at p.who) ps → seat_at who ≢ from
      → moved seat_at ps to who ≡ seat_at who
  moved_else seat_at [] to from who were apart = refl
  moved_else seat_at (p ∷ ps) to from who were apart =
      changed_else (moved seat_at ps to) p.who who to (λ same. apart (ap seat_at same ∙ sym were.0)) ∙ moved_else seat_at ps to from who were.1 apart

  pub moved_here : (seat_at : ℕ → ℕ) (ps : List (Part E)) (to : ℕ) → AllByRecursion (λ p. to ≡ moved seat_at ps to p.who) ps
  moved_here seat_at [] to = tt
  moved_here seat_at (p ∷ ps) to = (
    sym (changed_here (moved seat_at ps to) p.who to),
    all-more (λ (q : Part E). to ≡ moved seat_at ps to q.who) (λ (q : Part E). to ≡ moved seat_at (p ∷ ps) to q.who) (λ q e. still (eqb q.who p.who) (moved seat_at ps to q.who) e) ps (moved_here seat_at ps to),
  )
    where
      still : (b : Bool) (was : ℕ) → to ≡ was → to ≡ cond b to was
      still true was e = refl
      still false was e = e

  -- parts at two places have no number in common
  pub apart-append : (seat_at : ℕ → ℕ) (here there : ℕ) → there ≢ here → (ps qs : List (Part E))
      → AllByRecursion (λ p. here ≡ seat_at p.who) ps → AllByRecursion (λ q. there ≡ seat_at q.who) qs → AreApart ps → AreApart qs → AreApart (ps ++ qs)
  apart-append seat_at here there away [] qs at_here at_there apart others = others
  apart-append seat_at here there away (p ∷ ps) qs at_here at_there apart others = (
    all-both _ ps qs apart.0
        (all-more (λ (q : Part E). there ≡ seat_at q.who) (λ (q : Part E). p.who ≢ q.who) (λ q e same. away (e ∙ ap seat_at (sym same) ∙ sym at_here.0)) qs at_there),
    apart-append seat_at here there away ps qs at_here.1 at_there apart.1 others,
  )

pub at_end : {A : Type 0} → (l : List A) (a b : A) (j : ℕ) → get_elem? (l ++ a ∷ []) j ≡ some b → (get_elem? l j ≡ some b) ⊎ ((j ≡ length l) × (a ≡ b))
at_end [] a b zero e = inr (refl, some-injective a b e)
at_end [] a b (suc j) e = absurd (some-ne-none b (sym e))
at_end (x ∷ xs) a b zero e = inl e
at_end (x ∷ xs) a b (suc j) e = ⊎_elim (λ t. inl t) (λ t. inr (ap suc t.0, t.1)) (at_end xs a b j e)
