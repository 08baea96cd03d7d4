-- Offers one after another.
use Rattle.std.proofs.Common.{◌≡◌, List, [], ◌∷◌, ◌++◌, map, reverse, ap, sym, ◌∙◌, subst, refl, length, arith, ℕ, zero, suc, ◌<◌, get_or, inl, inr, ⊎_elim, Result}
use Rattle.std.specs.List.{AllByRecursion, FoldsTo}
use Rattle.std.proofs.lemmas.List.{length-map, map-append, reverse-append, reverse-reverse}
use Rattle.tr_threads.proofs.StartLemmas.{default_of}
use Rattle.tr_threads.specs.Feeding.{IsFed, WasFed}
use Rattle.tr_threads.specs.Pools.{EachCame, IsKeptOr}
use Rattle.tr_threads.specs.declared.items.Item.{Item}
use Rattle.tr_stream.specs.declared.answers.OfferFault.{OfferFault}
use Rattle.tr_stream.specs.declared.answers.Offered.{Offered}

pub all_append : {X : Type 0} (P : X → Type 0) (xs ys : List X) → AllByRecursion P xs → AllByRecursion P ys → AllByRecursion P (xs ++ ys)
all_append P [] ys a b = b
all_append P (x ∷ xs) ys a b = (a.0, all_append P xs ys a.1 b)

pub folds_one : {P A : Type 0} (R : P → A → P → Type 0) (p : P) (xs : List A) (q : P) (x : A) (r : P) → FoldsTo R p xs q → R q x r → FoldsTo R p (xs ++ x ∷ []) r
folds_one R p [] q x r done one = (r, subst (λ s. R s x r) (sym done) one, refl)
folds_one R p (y ∷ ys) q x r done one = (done.0, done.1, folds_one R done.0 ys q x r done.2 one)

pub reverse-map : {A B : Type 0} (f : A → B) (xs : List A) → map f (reverse xs) ≡ reverse (map f xs)
reverse-map f [] = refl
reverse-map f (x ∷ xs) =
    ap (map f) (reverse-append (x ∷ []) xs) ∙ map-append f (reverse xs) (x ∷ []) ∙ ap (λ zs. zs ++ f x ∷ []) (reverse-map f xs)
    ∙ sym (reverse-append (f x ∷ []) (map f xs))

pub empty_of : {A : Type 0} (xs : List A) → length xs ≡ 0 → xs ≡ []
empty_of [] e = refl
empty_of (x ∷ xs) e = absurd (omega (arith, e))

pub all_reverse : {A : Type 0} (P : A → Type 0) (xs : List A) → AllByRecursion P xs → AllByRecursion P (reverse xs)
all_reverse P [] a = tt
all_reverse P (x ∷ xs) a = subst (λ ys. AllByRecursion P ys) (sym (reverse-append (x ∷ []) xs)) (all_append P (reverse xs) (x ∷ []) (all_reverse P xs a.1) (a.0, tt))

pub all_at : {A : Type 0} (P : A → Type 0) (xs : List A) (i : ℕ) (d : A) → AllByRecursion P xs → i < length xs → P (get_or xs i d)
all_at P [] i d a low = absurd (omega (arith, low))
all_at P (x ∷ xs) zero d a low = a.0
all_at P (x ∷ xs) (suc i) d a low = all_at P xs i d a.1 (omega (arith, low))

-- if a list is the image of another, each element is the image of the one at its place
pub made_of : {A B : Type 0} (f : B → A) (made : List B) (all : List A) (i : ℕ) (a : A) (b : B) → map f made ≡ all → i < length made → f (get_or made i b) ≡ get_or all i a
made_of f [] all i a b is low = absurd (omega (arith, low))
made_of f (x ∷ xs) all zero a b is low = ap (λ ys. get_or ys 0 a) is
made_of f (x ∷ xs) all (suc i) a b is low = made_of f xs (map f xs) i a b refl (omega (arith, low)) ∙ ap (λ ys. get_or ys (suc i) a) is

map_twice : {A B C : Type 0} (f : A → B) (g : B → C) (xs : List A) → map (λ (x : A). g (f x)) xs ≡ map g (map f xs)
map_twice f g [] = refl
map_twice f g (x ∷ xs) = ap (λ ys. g (f x) ∷ ys) (map_twice f g xs)

-- all were given back after none, and turned round
pub turned_back : {A B : Type 0} (f : B → A) (given back seats : List A) (all : List B)
    → given ≡ [] → back ≡ given ++ reverse (map f all) → seats ≡ reverse back → seats ≡ map f all
turned_back f given back seats all none is turned =
    turned ∙ ap reverse (is ∙ ap (λ xs. xs ++ reverse (map f all)) none) ∙ reverse-reverse (map f all)

-- each feeder that comes back was made of the producer and the work at its place
pub all_fed : {B S W : Type 0} (producer : B → S) (work : B → W) (items : W → List Item) (log : B → List Item)
    (offers : S → ℕ → ℕ → List ℕ → Result Offered OfferFault → S → Type 0) (feeders back : List B) (producers : List S) (works : List W)
    → map producer feeders ≡ producers → map work feeders ≡ works → AllByRecursion (λ (b : B). log b ≡ []) feeders
    → EachCame (λ (i : ℕ) (p q : B). log p ≡ [] → IsFed offers (producer p) (items (work p)) (producer q) (log q)) feeders back
    → (i : ℕ) (p : S) (w : W) (b : B) → i < length producers
    → IsFed offers (get_or producers i p) (items (get_or works i w)) (producer (get_or back i b)) (log (get_or back i b))
all_fed {B} {S} {W} producer work items log offers feeders back producers works are have empty came i p w b low =
    let many : length feeders ≡ length producers = sym (length-map feeders producer) ∙ ap length are in
    let small : i < length feeders = omega (arith, low, many) in
    let before : B = get_or feeders i b in let after : B = get_or back i b in
    subst (λ x. IsFed offers x (items (get_or works i w)) (producer after) (log after)) (made_of producer feeders producers i p b are small)
    (subst (λ x. IsFed offers (producer before) (items x) (producer after) (log after)) (made_of work feeders works i w b have small)
    (came.1 i b b small (all_at (λ (x : B). log x ≡ []) feeders i b empty small)))

-- feeders come back, each as it was or with its work offered; so do their producers
pub producers_came : {B S W : Type 0} (producer : B → S) (work : B → W) (items : W → List Item) (log : B → List Item)
    (offers : S → ℕ → ℕ → List ℕ → Result Offered OfferFault → S → Type 0) (feeders back : List B) (producers seats : List S) (works : List W)
    → map producer feeders ≡ producers → map work feeders ≡ works → AllByRecursion (λ (b : B). log b ≡ []) feeders
    → seats ≡ map producer back
    → EachCame (λ (i : ℕ). IsKeptOr (λ (p q : B). log p ≡ [] → IsFed offers (producer p) (items (work p)) (producer q) (log q))) feeders back
    → EachCame (λ (i : ℕ). IsKeptOr (WasFed offers (get_or (map items works) i []))) producers seats
producers_came {B} {S} {W} producer work items log offers feeders back producers seats works are have empty gave came =
    let many : length feeders ≡ length producers = sym (length-map feeders producer) ∙ ap length are in
    let all : length seats ≡ length back = ap length gave ∙ length-map back producer in (
      all ∙ came.0 ∙ many,
      (λ i s u low.
          let small : i < length feeders = omega (arith, low, many) in
          let small_too : i < length back = omega (arith, small, came.0) in
          let p : B = get_or feeders i (default_of feeders i small) in
          let q : B = get_or back i (default_of back i small_too) in
          let before : producer p ≡ get_or producers i s = made_of producer feeders producers i s (default_of feeders i small) are small in
          let after : producer q ≡ get_or seats i u =
          made_of producer back (map producer back) i u (default_of back i small_too) refl small_too ∙ ap (λ xs. get_or xs i u) (sym gave) in
          let own : items (work p) ≡ get_or (map items works) i [] =
          made_of (λ (b : B). items (work b)) feeders (map items works) i [] (default_of feeders i small)
          (map_twice work items feeders ∙ ap (map items) have) small in
          let none : log p ≡ [] = all_at (λ (b : B). log b ≡ []) feeders i (default_of feeders i small) empty small in
          ⊎_elim
          (λ (kept : q ≡ p). inl (sym after ∙ ap producer kept ∙ before))
          (λ did. inr (
            log q,
            subst (λ x. IsFed offers (get_or producers i s) (get_or (map items works) i []) x (log q)) after
                (subst (λ x. IsFed offers x (get_or (map items works) i []) (producer q) (log q)) before
                (subst (λ x. IsFed offers (producer p) x (producer q) (log q)) own (did none))),
          ))
          (came.1 i (default_of feeders i small) (default_of back i small_too) small)),
    )
