-- What is found among names that are listed in any order.
use Rattle.std.proofs.Common.{◌≡◌, ◌∙◌, ℕ, Bool, true, false, true≢false, eqb, ◌||◌, refl, sym, ap, List, [], ◌∷◌, Option, Some, None}
use Rattle.std.proofs.lemmas.List.Folds.{list_any-append}
use Rattle.std.proofs.lemmas.Cmp.{nat_list_cmp_total}
use Rattle.std.specs.Cmp.Lexicographic.{bytes_decides, pointwise}
use Rattle.std.specs.List.{cons_option, filter_map, flat_map, list_any, AllByRecursion}
use Rattle.std.specs.Option.{option_map_or}
use Rattle.std.specs.Ordering.{eq_by_cmp}
use Rattle.tr_folders.specs.Tree.{Tree}
use Rattle.tr_recorded.proofs.BelowLemmas.{same-name}
use Rattle.tr_recorded.proofs.SetLemmas.{name-same, number-same, number-total, same-keys}
use Rattle.tr_recorded.specs.Made.{is_listed}
use Rattle.tr_survey.specs.Listing.{archive_at, archives_of, names_in_order}
use Rattle.tr_survey.specs.Order.{name_cmp, number_cmp}

bools : (a b : Bool) → (a ≡ true → b ≡ true) → (b ≡ true → a ≡ true) → a ≡ b
bools true b to from = sym (to refl)
bools false true to from = from refl
bools false false to from = refl

or-later : (a b : Bool) → b ≡ true → (a || b) ≡ true
or-later true b e = refl
or-later false b e = e

-- these names, in whatever order and however often
abbrev pub AreSame : List (List ℕ) → List (List ℕ) → Type 0
AreSame xs ys = (name : List ℕ) → is_listed name xs ≡ is_listed name ys

module _ (P : List ℕ → Bool) where
  found : (xs : List (List ℕ)) → list_any P xs ≡ true → (x : List ℕ) × (P x ≡ true) × (is_listed x xs ≡ true)
  found [] some = absurd (true≢false (sym some))
  found (x ∷ xs) some = go (P x) refl some (λ later. found xs later)
    where
      go : (b : Bool) → P x ≡ b → (b || list_any P xs) ≡ true
          → (list_any P xs ≡ true → (y : List ℕ) × (P y ≡ true) × (is_listed y xs ≡ true))
          → (y : List ℕ) × (P y ≡ true) × (is_listed y (x ∷ xs) ≡ true)
      go true e some more = (x, e, ap (λ (t : Bool). t || is_listed x xs) (same-name x))
      go false e some more =
          let f = more some in
          (f.0, f.1, or-later (pointwise eqb f.0 x) (is_listed f.0 xs) f.2)

  passes : (x : List ℕ) (ys : List (List ℕ)) → is_listed x ys ≡ true → P x ≡ true → list_any P ys ≡ true
  passes x [] listed e = absurd (true≢false (sym listed))
  passes x (y ∷ ys) listed e = go (pointwise eqb x y) refl listed (λ later. passes x ys later e)
    where
      go : (b : Bool) → pointwise eqb x y ≡ b → (b || is_listed x ys) ≡ true → (is_listed x ys ≡ true → list_any P ys ≡ true)
          → (P y || list_any P ys) ≡ true
      go true is listed more = ap (λ (t : Bool). t || list_any P ys) (ap P (sym ((bytes_decides x y).0 is)) ∙ e)
      go false is listed more = or-later (P y) (list_any P ys) (more listed)

  pub any-same : (xs ys : List (List ℕ)) → AreSame xs ys → list_any P xs ≡ list_any P ys
  any-same xs ys same =
      bools (list_any P xs) (list_any P ys)
      (λ some. let f = found xs some in passes f.0 ys (sym (same f.0) ∙ f.2) f.1)
      (λ some. let f = found ys some in passes f.0 xs (same f.0 ∙ f.2) f.1)

pub any-filtered : {X Y : Type 0} (p : Y → Bool) (h : X → Option Y) (xs : List X)
    → list_any p (filter_map h xs) ≡ list_any (λ x. option_map_or p (h x) false) xs
any-filtered p h [] = refl
any-filtered {Y = Y} p h (x ∷ xs) =
    cons (h x) (filter_map h xs) ∙ ap (λ (b : Bool). option_map_or p (h x) false || b) (any-filtered p h xs)
  where
    cons : (o : Option Y) (ys : List Y) → list_any p (cons_option o ys) ≡ (option_map_or p o false || list_any p ys)
    cons None ys = refl
    cons (Some y) ys = refl

pub filtered-same : {Y : Type 0} (p : Y → Bool) (h : List ℕ → Option Y) (xs ys : List (List ℕ)) → AreSame xs ys
    → list_any p (filter_map h xs) ≡ list_any p (filter_map h ys)
filtered-same p h xs ys same =
    any-filtered p h xs ∙ any-same (λ x. option_map_or p (h x) false) xs ys same ∙ sym (any-filtered p h ys)

pub archives-same : (t : Tree) (folder : List ℕ) (xs ys : List (List ℕ)) → AreSame xs ys → archives_of t folder xs ≡ archives_of t folder ys
archives-same t folder xs ys same =
    same-keys number-total number-same (filter_map (archive_at t folder) xs) (filter_map (archive_at t folder) ys)
    (λ q. filtered-same (eq_by_cmp number_cmp q) (archive_at t folder) xs ys same)

pub names-same : (xs ys : List (List ℕ)) → AreSame xs ys → names_in_order xs ≡ names_in_order ys
names-same xs ys same = same-keys nat_list_cmp_total name-same xs ys (λ q. any-same (eq_by_cmp name_cmp q) xs ys same)

either-same : (a b : Bool) → a ≡ b → (a || b) ≡ b
either-same true b e = e
either-same false b e = refl

-- what each of several has, all of them have
pub any-of-each : {X Y : Type 0} (p : Y → Bool) (f : X → List Y) (ks : List Y) (x : X) (xs : List X)
    → AllByRecursion (λ (z : X). list_any p (f z) ≡ list_any p ks) (x ∷ xs) → list_any p (flat_map f (x ∷ xs)) ≡ list_any p ks
any-of-each p f ks x [] each = list_any-append p (f x) [] ∙ or-none (list_any p (f x)) ∙ each.0
  where
    or-none : (b : Bool) → (b || false) ≡ b
    or-none true = refl
    or-none false = refl
any-of-each p f ks x (y ∷ xs) each =
    list_any-append p (f x) (flat_map f (y ∷ xs))
    ∙ ap (λ (b : Bool). list_any p (f x) || b) (any-of-each p f ks y xs each.1)
    ∙ either-same (list_any p (f x)) (list_any p ks) each.0
