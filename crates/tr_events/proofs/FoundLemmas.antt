-- Events found by their ids, which rise, and what is known of ids.
use Rattle.std.proofs.Common.{◌≡◌, ◌≢◌, ◌<◌, ◌≤◌, ◌+◌, ◌&&◌, ℕ, zero, suc, Bool, true, false, cond, eqb, ltb, refl, sym, ap, ◌∙◌, arith, List, [], ◌∷◌, ◌++◌, length, take, drop, get_or, Option, Some, None}
use Rattle.std.proofs.lemmas.Bool.{ne_eqb, ltb-true, lt-ltb}
use Rattle.std.proofs.lemmas.List.{take_more}
use Rattle.std.proofs.lemmas.Bool.Decides.{Decides-eqb}
use Rattle.tr_terms.proofs.BoolLemmas.{both}
use Rattle.tr_events.specs.Events.{Event, event_with, exact, fits_among, fits_if_some, ids_rise}
use Rattle.tr_events.specs.declared.ids.Known.{Known}
use Rattle.tr_events.specs.declared.ids.Known.TheVariants.{Ask}
use Rattle.tr_events.proofs.EndLemmas.{exact_fits}

-- ---- the first of some events

other : (id : ℕ) (e : Event) (events : List Event) → e.id ≢ id → event_with id (e ∷ events) ≡ event_with id events
other id e events ne = rw (ne_eqb e.id id ne) refl

first : (id : ℕ) (e : Event) (events : List Event) → e.id ≡ id → event_with id (e ∷ events) ≡ Some e
first id e events is = rw ((Decides-eqb e.id id).1 is) refl

two : (a b : Bool) → a ≡ true → b ≡ true → (a && b) ≡ true
two a b e f = rw (e, f) refl

-- ---- ids that rise

pub lower : (a b : ℕ) (events : List Event) → a ≤ b → ids_rise b events ≡ true → ids_rise a events ≡ true
lower a b [] le rise = refl
lower a b (e ∷ events) le rise =
    let r = both (ltb b e.id) (ids_rise e.id events) rise in
    let over = ltb-true b e.id r.0 in
    two (ltb a e.id) (ids_rise e.id events) (lt-ltb a e.id (omega (arith, over, le))) r.1

none_below : (before id : ℕ) (events : List Event) → ids_rise before events ≡ true → id ≤ before → event_with id events ≡ None
none_below before id [] rise under = refl
none_below before id (e ∷ events) rise under =
    let r = both (ltb before e.id) (ids_rise e.id events) rise in
    let over = ltb-true before e.id r.0 in
    let ne : e.id ≢ id = omega (arith, over, under) in
    other id e events ne ∙ none_below e.id id events r.1 (omega (arith, over, under))

-- the event in the middle, and those above it
later : (before n : ℕ) (events : List Event) (y : Event) (ys : List Event) → ids_rise before events ≡ true → drop n events ≡ y ∷ ys
    → (before < y.id) × (ids_rise y.id ys ≡ true)
later before zero events y ys rise at =
    let r = both (ltb before y.id) (ids_rise y.id ys) (ap (ids_rise before) (sym at) ∙ rise) in
    (ltb-true before y.id r.0, r.1)
later before (suc n) [] y ys rise at = absurd cc
later before (suc n) (e ∷ events) y ys rise at =
    let r = both (ltb before e.id) (ids_rise e.id events) rise in
    let over = ltb-true before e.id r.0 in
    let rest = later e.id n events y ys r.1 at in
    let here = rest.0 in
    (omega (arith, over, here), rest.1)

pub above_rise : (n : ℕ) (events : List Event) (y : Event) (ys : List Event) → ids_rise 0 events ≡ true → drop n events ≡ y ∷ ys
    → ids_rise 0 ys ≡ true
above_rise n events y ys rise at = lower 0 y.id ys (omega arith) (later 0 n events y ys rise at).1

below_rises : (before n : ℕ) (events : List Event) → ids_rise before events ≡ true → ids_rise before (take n events) ≡ true
below_rises before zero events rise = refl
below_rises before (suc n) [] rise = refl
below_rises before (suc n) (e ∷ events) rise =
    let r = both (ltb before e.id) (ids_rise e.id events) rise in
    two (ltb before e.id) (ids_rise e.id (take n events)) r.0 (below_rises e.id n events r.1)

pub below_rise : (n : ℕ) (events : List Event) → ids_rise 0 events ≡ true → ids_rise 0 (take n events) ≡ true
below_rise n events rise = below_rises 0 n events rise

-- ---- the event with an id is in the middle, below it or above it

here : (before id n : ℕ) (events : List Event) (y : Event) (ys : List Event) → ids_rise before events ≡ true → drop n events ≡ y ∷ ys
    → y.id ≡ id → event_with id events ≡ Some y
here before id zero events y ys rise at is = ap (event_with id) at ∙ first id y ys is
here before id (suc n) [] y ys rise at is = absurd cc
here before id (suc n) (e ∷ events) y ys rise at is =
    let r = both (ltb before e.id) (ids_rise e.id events) rise in
    let over = (later e.id n events y ys r.1 at).0 in
    let ne : e.id ≢ id = omega (arith, over, is) in
    other id e events ne ∙ here e.id id n events y ys r.1 at is

above : (before id n : ℕ) (events : List Event) (y : Event) (ys : List Event) → ids_rise before events ≡ true → drop n events ≡ y ∷ ys
    → y.id < id → event_with id events ≡ event_with id ys
above before id zero events y ys rise at under =
    let ne : y.id ≢ id = omega (arith, under) in
    ap (event_with id) at ∙ other id y ys ne
above before id (suc n) [] y ys rise at under = absurd cc
above before id (suc n) (e ∷ events) y ys rise at under =
    let r = both (ltb before e.id) (ids_rise e.id events) rise in
    let over = (later e.id n events y ys r.1 at).0 in
    let ne : e.id ≢ id = omega (arith, over, under) in
    other id e events ne ∙ above e.id id n events y ys r.1 at under

below : (before id n : ℕ) (events : List Event) (y : Event) (ys : List Event) → ids_rise before events ≡ true → drop n events ≡ y ∷ ys
    → id < y.id → event_with id events ≡ event_with id (take n events)
below before id zero events y ys rise at over =
    let ne : y.id ≢ id = omega (arith, over) in
    let r = both (ltb before y.id) (ids_rise y.id ys) (ap (ids_rise before) (sym at) ∙ rise) in
    ap (event_with id) at ∙ other id y ys ne ∙ none_below y.id id ys r.1 (omega (arith, over))
below before id (suc n) [] y ys rise at over = absurd cc
below before id (suc n) (e ∷ events) y ys rise at over =
    let r = both (ltb before e.id) (ids_rise e.id events) rise in
    ap (λ (o : Option Event). cond (eqb e.id id) (Some e) o) (below e.id id n events y ys r.1 at over)

pub here_found : (id n : ℕ) (events : List Event) (y : Event) (ys : List Event) → ids_rise 0 events ≡ true → drop n events ≡ y ∷ ys
    → y.id ≡ id → event_with id events ≡ Some y
here_found id n events y ys rise at is = here 0 id n events y ys rise at is

pub above_found : (id n : ℕ) (events : List Event) (y : Event) (ys : List Event) → ids_rise 0 events ≡ true → drop n events ≡ y ∷ ys
    → y.id < id → event_with id events ≡ event_with id ys
above_found id n events y ys rise at under = above 0 id n events y ys rise at under

pub below_found : (id n : ℕ) (events : List Event) (y : Event) (ys : List Event) → ids_rise 0 events ≡ true → drop n events ≡ y ∷ ys
    → id < y.id → event_with id events ≡ event_with id (take n events)
below_found id n events y ys rise at over = below 0 id n events y ys rise at over

-- ---- one more event, and one more entry

none_more : (id : ℕ) (events : List Event) (e : Event) → event_with id events ≡ None → e.id ≢ id → event_with id (events ++ e ∷ []) ≡ None
none_more id [] e is ne = other id e [] ne
none_more id (x ∷ events) e is ne = go (λ rest. none_more id events e rest ne) (eqb x.id id) is
  where
    go : (event_with id events ≡ None → event_with id (events ++ e ∷ []) ≡ None) → (t : Bool) → cond t (Some x) (event_with id events) ≡ None
        → cond t (Some x) (event_with id (events ++ e ∷ [])) ≡ None
    go rest true found = absurd cc
    go rest false found = rest found

-- none of those before has it, nor has the next one
pub none_next : (id k : ℕ) (events : List Event) (e : Event) → k < length events → e ≡ get_or events k e → event_with id (take k events) ≡ None
    → e.id ≢ id → event_with id (take (k + 1) events) ≡ None
none_next id k events e lt is none ne =
    ap (event_with id) (take_more events k e lt ∙ ap (λ (x : Event). take k events ++ x ∷ []) (sym is)) ∙ none_more id (take k events) e none ne

all_taken : (k : ℕ) (events : List Event) → length events ≤ k → take k events ≡ events
all_taken zero [] le = refl
all_taken zero (e ∷ events) le = absurd (omega (arith, le))
all_taken (suc k) [] le = refl
all_taken (suc k) (e ∷ events) le = ap (λ (l : List Event). e ∷ l) (all_taken k events (omega (arith, le)))

pub none_of_all : (id k : ℕ) (events : List Event) → length events ≤ k → event_with id (take k events) ≡ None → event_with id events ≡ None
none_of_all id k events le none = ap (event_with id) (sym (all_taken k events le)) ∙ none

pub each_more : (P : ℕ → Known → Type 0) (entries : List Known) (x : Known) → ((k : ℕ) → P k (get_or entries k Ask)) → P (length entries) x
    → (k : ℕ) → P k (get_or (entries ++ x ∷ []) k Ask)
each_more P [] x all last zero = last
each_more P [] x all last (suc k) = all (suc k)
each_more P (y ∷ entries) x all last zero = all zero
each_more P (y ∷ entries) x all last (suc k) = each_more (λ j v. P (suc j) v) entries x (λ j. all (suc j)) last k

-- ---- an event of one size

pub exact_so : (events : List Event) (id size : ℕ) (e : Event) → event_with id events ≡ Some e → exact e.fields ≡ Some size
    → (payload : List ℕ) → fits_among events id payload ≡ eqb (length payload) size
exact_so events id size e found is payload = ap (λ (o : Option Event). fits_if_some o payload) found ∙ exact_fits e size payload is
