-- The ranges of tags say which ids are declared.
use Rattle.std.proofs.Common.{◌≡◌, ℕ, suc, add-one, get_or, subst, length, drop, append_assoc, ◌+◌, ◌-◌, ◌^◌, ◌<◌, ◌≤◌, Bool, true, false, ◌&&◌, eqb, ltb, List, [], ◌∷◌, ◌++◌, Some, None, refl, sym, ap, ◌∙◌, arith, inl, inr}
use Rattle.std.specs.Prelude.{IsTrue, is_some}
use Rattle.std.specs.Int.{is_in_range}
use Rattle.std.proofs.lemmas.Bool.{cases_lt, lt-ltb, le-leb, ltb-true, le-ltb, eq-eqb, ne_eqb}
use Rattle.std.proofs.lemmas.Bool.Decides.{nat_tests}
use Rattle.tr_events.specs.Events.{Event, ids_rise, event_with}
use Rattle.tr_metadata.specs.Reader.{range, gap, ranges_from, label_of}
use Rattle.tr_metadata.specs.declared.ranges.Range.{Range}
use Rattle.std.proofs.Math.Seq.{drop-cons}
use Rattle.std.proofs.Math.ListN.{drop_of_length-le}
use Rattle.tr_events.specs.declared.layouts.TheConstants.{MOST_ID}

both : (a b : Bool) → IsTrue (a && b) → (a ≡ true) × (b ≡ true)
both true b e = (refl, e)
both false b e = absurd cc

in_range : (low high n : ℕ) → low ≤ n → n ≤ high → is_in_range low high n ≡ true
in_range low high n a b = rw (le-leb low n a, le-leb n high b) refl

-- ids that are all above
none_below : (id before : ℕ) (events : List Event) → IsTrue (ids_rise before events) → id ≤ before → event_with id events ≡ None
none_below id before [] rise le = refl
none_below id before (e ∷ events) rise le =
    let r = both (ltb before e.id) (ids_rise e.id events) rise in
    let above : before < e.id = ltb-true before e.id r.0 in
    let other : eqb e.id id ≡ false = ne_eqb e.id id (λ same. omega arith) in
    rw other (none_below id e.id events r.1 (omega arith))

above_range : (low high n : ℕ) → high < n → is_in_range low high n ≡ false
above_range low high n past = grind (arith, nat_tests)

-- a tag that is the first id, or above it, where other tags from there on are told right
at_or_above : (tag : ℕ) (e : Event) (events : List Event) → IsTrue (ids_rise e.id events) → e.id ≤ tag
    → (e.id < tag → label_of tag (ranges_from (e.id + 1) events) ≡ Some (is_some (event_with tag events)))
    → label_of tag (range true e.id e.id ∷ ranges_from (e.id + 1) events) ≡ Some (is_some (event_with tag (e ∷ events)))
at_or_above tag e events rise le others =
    elim (cases_lt e.id tag) [
      | inl above ↦
          let outside : is_in_range e.id e.id tag ≡ false = above_range e.id e.id tag above in
          let other : eqb e.id tag ≡ false = ne_eqb e.id tag (λ same. omega arith) in
          rw (outside, other) (others above)
      | inr most ↦
          let inside : is_in_range e.id e.id tag ≡ true = in_range e.id e.id tag le most in
          let same : eqb e.id tag ≡ true = eq-eqb e.id tag (omega arith) in
          rw (inside, same) refl
    ]

-- a tag from `from` on, if all ids are above `before`, which is no more than one below `from`
pub label_from : (tag from : ℕ) (events : List Event) → (before : ℕ) → IsTrue (ids_rise before events) → from ≤ before + 1
    → from ≤ tag → tag < 2 ^ 32 → label_of tag (ranges_from from events) ≡ Some (is_some (event_with tag events))
label_from tag from [] before rise low within below =
    let some : ltb from (MOST_ID + 1) ≡ true = lt-ltb from (MOST_ID + 1) (omega arith) in
    let inside : is_in_range from MOST_ID tag ≡ true = in_range from MOST_ID tag within (omega arith) in
    rw (some, inside) refl
label_from tag from (e ∷ events) before rise low within below =
    let r = both (ltb before e.id) (ids_rise e.id events) rise in
    let above : before < e.id = ltb-true before e.id r.0 in
    let rest = at_or_above tag e events r.1 in
    let others : e.id < tag → label_of tag (ranges_from (e.id + 1) events) ≡ Some (is_some (event_with tag events)) =
    λ past. label_from tag (e.id + 1) events e.id r.1 (omega arith) (omega arith) below in
    elim (cases_lt from e.id) [
      | inl gap ↦
          let some : ltb from e.id ≡ true = lt-ltb from e.id gap in
          elim (cases_lt tag e.id) [
            | inl first ↦
                let inside : is_in_range from (e.id - 1) tag ≡ true = in_range from (e.id - 1) tag within (omega arith) in
                let other : eqb e.id tag ≡ false = ne_eqb e.id tag (λ same. omega arith) in
                let none = none_below tag e.id events r.1 (omega arith) in
                rw (some, inside, other, none) refl
            | inr past ↦
                let outside : is_in_range from (e.id - 1) tag ≡ false = above_range from (e.id - 1) tag (omega arith) in
                rw (some, outside) (rest past others)
          ]
      | inr none ↦
          let no_gap : ltb from e.id ≡ false = le-ltb from e.id none in
          rw no_gap (rest (omega arith) others)
    ]

pub label_is : (tag before : ℕ) (events : List Event) → IsTrue (ids_rise before events) → 0 ≤ tag → tag < 2 ^ 32
    → label_of tag (ranges_from 0 events) ≡ Some (is_some (event_with tag events))
label_is tag before events rise within below = label_from tag 0 events before rise (omega arith) (omega arith) below

-- ---- ranges, written one event after another

ranges_more_by : (es : List Event) (i : ℕ) (x : Event) (from : ℕ) (old gapped new all : List Range) → i < length es → x ≡ get_or es i x
    → old ++ ranges_from from (drop i es) ≡ all → gapped ≡ old ++ gap from x.id → new ≡ gapped ++ range true x.id x.id ∷ []
    → new ++ ranges_from (x.id + 1) (drop (i + 1) es) ≡ all
ranges_more_by es i x from old gapped new all within item so a b =
    let rest = drop (i + 1) es in
    let cons : drop i es ≡ x ∷ rest = first_of_rest es i x within item in
    let parts : (old ++ gap from x.id) ++ (range true x.id x.id ∷ ranges_from (x.id + 1) rest) ≡ all =
    append_assoc old (gap from x.id) (range true x.id x.id ∷ ranges_from (x.id + 1) rest)
    ∙ ap (λ (t : List Event). old ++ ranges_from from t) (sym cons) ∙ so in
    ap (λ (t : List Range). t ++ ranges_from (x.id + 1) rest) (b ∙ ap (λ (t : List Range). t ++ range true x.id x.id ∷ []) a)
    ∙ append_assoc (old ++ gap from x.id) (range true x.id x.id ∷ []) (ranges_from (x.id + 1) rest) ∙ parts
  where
    first_of_rest : (es : List Event) (i : ℕ) (x : Event) → i < length es → x ≡ get_or es i x → drop i es ≡ x ∷ drop (i + 1) es
    first_of_rest es i x within item = rw (add-one, drop-cons es i x) (ap (λ (y : Event). y ∷ drop (suc i) es) (sym item))

pub ranges_more : (es : List Event) (i : ℕ) (x : Event) (id from : ℕ) (old gapped new all : List Range) → i < length es → x ≡ get_or es i x
    → id ≡ x.id → old ++ ranges_from from (drop i es) ≡ all → gapped ≡ old ++ gap from id → new ≡ gapped ++ range true id id ∷ []
    → new ++ ranges_from (id + 1) (drop (i + 1) es) ≡ all
ranges_more es i x id from old gapped new all within item same so =
    subst (λ (n : ℕ). gapped ≡ old ++ gap from n → new ≡ gapped ++ range true n n ∷ [] → new ++ ranges_from (n + 1) (drop (i + 1) es) ≡ all)
    (sym same) (ranges_more_by es i x from old gapped new all within item so)

pub ranges_done : (es : List Event) (i from : ℕ) (old new all : List Range) → length es ≤ i
    → old ++ ranges_from from (drop i es) ≡ all → new ≡ old ++ gap from (MOST_ID + 1) → new ≡ all
ranges_done es i from old new all past so a =
    a ∙ ap (λ (t : List Event). old ++ ranges_from from t) (sym (drop_of_length-le es past)) ∙ so
