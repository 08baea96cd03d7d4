-- A set has its keys in one order, in whatever order they come.
use Rattle.std.proofs.Common.{◌≡◌, ◌∙◌, ℕ, Bool, true, false, cond, ◌||◌, refl, sym, ap, List, [], ◌∷◌, map, Option, Some}
use Rattle.std.proofs.lemmas.Cmp.{nat_cmp_total, nat_list_cmp_total, on_total, then_total}
use Rattle.std.specs.BTreeSet.{insert_key}
use Rattle.std.specs.Cmp.{IsTotalOrder}
use Rattle.std.specs.FinMap.{FinMap, IsAntisymmetric, entries, entries-from_sorted, entries-insert, from_sorted, get, get-insert, insert, nat_cmp-IsAntisymmetric, put, same_map, slice_cmp-IsAntisymmetric}
use Rattle.std.specs.FinMap.Entries.{by_order}
use Rattle.std.specs.List.{fold, list_any}
use Rattle.std.specs.Ordering.{eq_by_cmp, match_ordering, ordering_then}
use Rattle.std.specs.declared.cmp.Ordering.{Ordering}
use Rattle.std.specs.declared.cmp.Ordering.TheVariants.{Less, Equal, Greater}
use Rattle.tr_survey.specs.Names.{of_parts}
use Rattle.tr_survey.specs.Order.{Numbered, name_cmp, number_cmp}

after-more : (a b : Bool) (o : Option (Unit {0})) → cond b (Some tt) (cond a (Some tt) o) ≡ cond (a || b) (Some tt) o
after-more true true o = refl
after-more true false o = refl
after-more false b o = refl

module _ {K : Type 0} {R : K → K → Ordering} (o : IsTotalOrder R) where
  abbrev keys : List (K × Unit {0}) → List K
  keys = map (λ (e : K × Unit {0}). e.0)

  keys-put : (k : K) (es : List (K × Unit {0})) → keys (put R k tt es) ≡ insert_key R (keys es) k
  keys-put k [] = refl
  keys-put k (e ∷ es) = by (R k e.0) (keys-put k es)
    where
      by : (r : Ordering) → keys (put R k tt es) ≡ insert_key R (keys es) k
          → keys (by_order r ((k, tt) ∷ e ∷ es) ((e.0, tt) ∷ es) (e ∷ put R k tt es))
          ≡ match_ordering r (k ∷ e.0 ∷ keys es) (e.0 ∷ keys es) (e.0 ∷ insert_key R (keys es) k)
      by Less h = refl
      by Equal h = refl
      by Greater h = ap (λ (l : List K). e.0 ∷ l) h

  abbrev none : FinMap R (Unit {0})
  none = from_sorted []

  abbrev with_all : FinMap R (Unit {0}) → List K → FinMap R (Unit {0})
  with_all m [] = m
  with_all m (k ∷ ks) = with_all (insert m k tt) ks

  keys-all : (m : FinMap R (Unit {0})) (ks : List K) → keys (entries (with_all m ks)) ≡ fold (insert_key R) (keys (entries m)) ks
  keys-all m [] = refl
  keys-all m (k ∷ ks) =
      keys-all (insert m k tt) ks
      ∙ ap (λ (l : List K). fold (insert_key R) l ks) (ap keys (entries-insert o m k tt) ∙ keys-put k (entries m))

  get-all : (m : FinMap R (Unit {0})) (ks : List K) (q : K) → get (with_all m ks) q ≡ cond (list_any (eq_by_cmp R q) ks) (Some tt) (get m q)
  get-all m [] q = refl
  get-all m (k ∷ ks) q =
      get-all (insert m k tt) ks q
      ∙ ap (λ (x : Option (Unit {0})). cond (list_any (eq_by_cmp R q) ks) (Some tt) x) (get-insert o m k tt q)
      ∙ after-more (eq_by_cmp R q k) (list_any (eq_by_cmp R q) ks) (get m q)

  as-map : (ks : List K) → keys (entries (with_all none ks)) ≡ fold (insert_key R) [] ks
  as-map ks = keys-all none ks ∙ ap (λ (l : List (K × Unit {0})). fold (insert_key R) (keys l) ks) (entries-from_sorted R [] tt)

  pub same-keys : IsAntisymmetric R → (xs ys : List K) → ((q : K) → list_any (eq_by_cmp R q) xs ≡ list_any (eq_by_cmp R q) ys)
      → fold (insert_key R) [] xs ≡ fold (insert_key R) [] ys
  same-keys same xs ys are =
      sym (as-map xs)
      ∙ ap (λ (m : FinMap R (Unit {0})). keys (entries m))
      (same_map o same (with_all none xs) (with_all none ys)
      (λ q. get-all none xs q ∙ ap (λ (b : Bool). cond b (Some tt) (get none q)) (are q) ∙ sym (get-all none ys q)))
      ∙ as-map ys

-- ---- numbers and names

pub name-same : IsAntisymmetric name_cmp
name-same = slice_cmp-IsAntisymmetric nat_cmp-IsAntisymmetric

pub number-total : IsTotalOrder number_cmp
number-total = then_total (on_total (λ (n : Numbered). n.number) nat_cmp_total) (on_total (λ (n : Numbered). n.name) nat_list_cmp_total)

both-equal : (r s : Ordering) → ordering_then r s ≡ Equal → (r ≡ Equal) × (s ≡ Equal)
both-equal Less s e = absurd cc
both-equal Equal s e = (refl, e)
both-equal Greater s e = absurd cc

pub number-same : IsAntisymmetric number_cmp
number-same x y e =
    let b = both-equal _ _ e in
    ap (λ (n : ℕ). of_parts x.name n) (nat_cmp-IsAntisymmetric x.number y.number b.0)
    ∙ ap (λ (l : List ℕ). of_parts l y.number) (name-same x.name y.name b.1)
