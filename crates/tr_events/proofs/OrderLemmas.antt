-- Events in the order of ids, one more of them, and what a text declares.
use Rattle.std.proofs.Common.{◌≡◌, ◌<◌, ◌≤◌, ◌&&◌, ℕ, suc, Bool, true, false, cond, eqb, leb, refl, sym, ap, subst, arith, List, [], ◌∷◌, ◌++◌, length}
use Rattle.std.specs.Prelude.{not, ◌||◌, nat_eq}
use Rattle.std.specs.Cmp.Lexicographic.{pointwise}
use Rattle.std.specs.List.{AllByRecursion}
use Rattle.std.proofs.lemmas.Bool.{ne_eqb, ltb-true, leb-true, leb-false, lt-ltb}
use Rattle.std.proofs.lemmas.Bool.Decides.{Decides-eqb}
use Rattle.std.proofs.lemmas.Slice.Eq.{bytes_eq-Decides}
use Rattle.tr_terms.proofs.BoolLemmas.{both}
use Rattle.tr_events.specs.declared.layouts.TheConstants.{MOST_EVENTS}
use Rattle.tr_events.specs.Events.{Event, all_apart, ids_rise, is_apart}
use Rattle.tr_events.specs.Lines.{are_names_apart, is_among_names, is_taken, placed}
use Rattle.tr_events.specs.Declarations.{AreDeclaredEvents, IsDeclaration, names_for}

-- ---- tests

neither : (a b : Bool) → (a || b) ≡ false → (a ≡ false) × (b ≡ false)
neither true b e = absurd cc
neither false b e = (refl, e)

nor : (a b : Bool) → a ≡ false → b ≡ false → (a || b) ≡ false
nor a b e f = rw (e, f) refl

two : (a b : Bool) → a ≡ true → b ≡ true → (a && b) ≡ true
two a b e f = rw (e, f) refl

not_true : (b : Bool) → not b ≡ true → b ≡ false
not_true true e = absurd cc
not_true false e = refl

not_false : (b : Bool) → b ≡ false → not b ≡ true
not_false b e = rw e refl

true_false : {b : Bool} → b ≡ true → b ≡ false → ⊥
true_false e f = absurd cc

-- ---- one more in order

pub placed_length : (e : Event) (events : List Event) → length (placed e events) ≡ suc (length events)
placed_length e [] = refl
placed_length e (o ∷ events) = go (placed_length e events) (leb o.id e.id)
  where
    go : length (placed e events) ≡ suc (length events) → (t : Bool) → length (cond t (o ∷ placed e events) (e ∷ o ∷ events)) ≡ suc (suc (length events))
    go rest true = ap suc rest
    go rest false = refl

placed_rise : (before : ℕ) (e : Event) (events : List Event) → before < e.id → is_taken e events ≡ false → ids_rise before events ≡ true
    → ids_rise before (placed e events) ≡ true
placed_rise before e [] above free rise = two _ _ (lt-ltb _ _ above) refl
placed_rise before e (o ∷ events) above free rise =
    go (λ over. placed_rise o.id e events over (neither _ _ free).1 (both _ _ rise).1) (leb o.id e.id) refl
  where
    other : (o.id ≡ e.id) → ⊥
    other same = true_false ((Decides-eqb o.id e.id).1 same) (neither _ _ (neither _ _ free).0).0

    go : (o.id < e.id → ids_rise o.id (placed e events) ≡ true) → (t : Bool) → leb o.id e.id ≡ t
        → ids_rise before (cond t (o ∷ placed e events) (e ∷ o ∷ events)) ≡ true
    go rest true t = two _ _ (both _ _ rise).0 (rest (let under = leb-true _ _ t in omega (arith, under, other)))
    go rest false t =
        two _ _ (lt-ltb _ _ above) (two _ _ (lt-ltb e.id o.id (let over = leb-false o.id e.id t in omega (arith, over))) (both _ _ rise).1)

placed_all : (P : Event → Type 0) (e : Event) (events : List Event) → P e → AllByRecursion P events → AllByRecursion P (placed e events)
placed_all P e [] is all = (is, tt)
placed_all P e (o ∷ events) is all = go (placed_all P e events is all.1) (leb o.id e.id)
  where
    go : AllByRecursion P (placed e events) → (t : Bool) → AllByRecursion P (cond t (o ∷ placed e events) (e ∷ o ∷ events))
    go rest true = (all.0, rest)
    go rest false = (is, all)

placed_apart : (e : Event) (events : List Event) → is_apart e.fields ≡ true → all_apart events ≡ true → all_apart (placed e events) ≡ true
placed_apart e [] is all = two _ _ is refl
placed_apart e (o ∷ events) is all = go (placed_apart e events is (both _ _ all).1) (leb o.id e.id)
  where
    go : all_apart (placed e events) ≡ true → (t : Bool) → all_apart (cond t (o ∷ placed e events) (e ∷ o ∷ events)) ≡ true
    go rest true = two _ _ (both _ _ all).0 rest
    go rest false = two _ _ is all

-- ---- names

same_turned : (a b : List ℕ) → pointwise nat_eq a b ≡ false → pointwise nat_eq b a ≡ false
same_turned a b e = go (pointwise nat_eq b a) refl
  where
    go : (t : Bool) → pointwise nat_eq b a ≡ t → t ≡ false
    go true s = absurd (true_false ((bytes_eq-Decides a b).1 (sym ((bytes_eq-Decides b a).0 s))) e)
    go false s = refl

free_name : (e : Event) (events : List Event) → is_taken e events ≡ false → is_among_names (names_for events) e.name ≡ false
free_name e [] free = refl
free_name e (o ∷ events) free =
    let n = neither _ _ free in
    nor _ _ (same_turned o.name e.name (neither _ _ n.0).1) (free_name e events n.1)

-- a name that isn't among others, nor a further one, isn't among all
among_placed : (name : List ℕ) (e : Event) (events : List Event) → pointwise nat_eq name e.name ≡ false
    → is_among_names (names_for events) name ≡ false → is_among_names (names_for (placed e events)) name ≡ false
among_placed name e [] other free = nor _ _ other refl
among_placed name e (o ∷ events) other free = go (among_placed name e events other (neither _ _ free).1) (leb o.id e.id)
  where
    go : is_among_names (names_for (placed e events)) name ≡ false → (t : Bool) → is_among_names (names_for (cond t (o ∷ placed e events) (e ∷ o ∷ events))) name ≡ false
    go rest true = nor _ _ (neither _ _ free).0 rest
    go rest false = nor _ _ other free

placed_names : (e : Event) (events : List Event) → is_taken e events ≡ false → are_names_apart (names_for events) ≡ true
    → are_names_apart (names_for (placed e events)) ≡ true
placed_names e [] free apart = refl
placed_names e (o ∷ events) free apart = go (placed_names e events (neither _ _ free).1 (both _ _ apart).1) (leb o.id e.id)
  where
    go : are_names_apart (names_for (placed e events)) ≡ true → (t : Bool)
        → are_names_apart (names_for (cond t (o ∷ placed e events) (e ∷ o ∷ events))) ≡ true
    go rest true =
        two _ _ (not_false _ (among_placed o.name e events (neither _ _ (neither _ _ free).0).1 (not_true _ (both _ _ apart).0))) rest
    go rest false = two _ _ (not_false _ (free_name e (o ∷ events) free)) apart

-- ---- declared events, and one more

pub placed_declared : (e : Event) (events : List Event) → AreDeclaredEvents events → IsDeclaration e → 0 < e.id → is_apart e.fields ≡ true
    → is_taken e events ≡ false → suc (length events) ≤ MOST_EVENTS → AreDeclaredEvents (placed e events)
placed_declared e events all is above apart free few = record {
  are = record {
    few = subst (λ (n : ℕ). n ≤ MOST_EVENTS) (sym (placed_length e events)) few;
    rise = placed_rise 0 e events above free all.are.rise;
    apart = placed_apart e events apart all.are.apart;
  };
  names = placed_names e events free all.names;
  each = placed_all IsDeclaration e events is all.each;
}

-- ---- the last one

pub rise_last : (before : ℕ) (events : List Event) (e : Event) (more : List Event) → ids_rise before (events ++ (e ∷ more)) ≡ true
    → (before < e.id) × AllByRecursion (λ (o : Event). o.id < e.id) events
rise_last before [] e more rise = (ltb-true _ _ (both _ _ rise).0, tt)
rise_last before (o ∷ events) e more rise =
    let rest = rise_last o.id events e more (both _ _ rise).1 in
    let first = ltb-true before o.id (both _ _ rise).0 in
    let here = rest.0 in
    (omega (arith, first, here), (here, rest.1))

pub placed_last : (e : Event) (events : List Event) → AllByRecursion (λ (o : Event). o.id < e.id) events → placed e events ≡ events ++ (e ∷ [])
placed_last e [] below = refl
placed_last e (o ∷ events) below = go (placed_last e events below.1) (leb o.id e.id) refl
  where
    go : placed e events ≡ events ++ (e ∷ []) → (t : Bool) → leb o.id e.id ≡ t → cond t (o ∷ placed e events) (e ∷ o ∷ events) ≡ o ∷ (events ++ (e ∷ []))
    go rest true t = ap (λ (l : List Event). o ∷ l) rest
    go rest false t = absurd (let a = leb-false o.id e.id t in let b = below.0 in omega (arith, a, b))

names_joined : (events more : List Event) → names_for (events ++ more) ≡ names_for events ++ names_for more
names_joined [] more = refl
names_joined (e ∷ events) more = ap (λ (l : List (List ℕ)). e.name ∷ l) (names_joined events more)

among_last : (name : List ℕ) (names : List (List ℕ)) (last : List ℕ) (more : List (List ℕ))
    → is_among_names (names ++ (last ∷ more)) name ≡ false → pointwise nat_eq name last ≡ false
among_last name [] last more free = (neither _ _ free).0
among_last name (n ∷ names) last more free = among_last name names last more (neither _ _ free).1

pub free_last : (e : Event) (events more : List Event) → AllByRecursion (λ (o : Event). o.id < e.id) events
    → are_names_apart (names_for (events ++ (e ∷ more))) ≡ true → is_taken e events ≡ false
free_last e [] more below apart = refl
free_last e (o ∷ events) more below apart =
    let p = both _ _ apart in
    let names = subst (λ (ns : List (List ℕ)). is_among_names ns o.name ≡ false) (names_joined events (e ∷ more)) (not_true _ p.0) in
    nor _ _ (nor _ _ (other o.id e.id below.0) (among_last o.name (names_for events) e.name (names_for more) names)) (free_last e events more below.1 p.1)
  where
    other : (a b : ℕ) → a < b → eqb a b ≡ false
    other a b lt = ne_eqb a b (λ same. absurd (omega (arith, lt, same)))
