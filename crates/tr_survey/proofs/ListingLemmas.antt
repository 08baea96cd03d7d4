-- Sets of archives, streams and sessions, key by key.
use Rattle.std.proofs.Common.{◌≡◌, refl, ap, ◌∙◌, List, [], ◌∷◌, map}
use Rattle.std.specs.BTreeSet.{insert_key}
use Rattle.std.specs.Ordering.{match_ordering}
use Rattle.std.specs.declared.cmp.Ordering.{Ordering}
use Rattle.std.specs.declared.cmp.Ordering.TheVariants.{Less, Equal, Greater}

map-match : {A B : Type 0} (f : A → B) (o : Ordering) (less equal greater : List A)
    → map f (match_ordering o less equal greater) ≡ match_ordering o (map f less) (map f equal) (map f greater)
map-match f Less less equal greater = refl
map-match f Equal less equal greater = refl
map-match f Greater less equal greater = refl

-- a key is put at its place by what is seen of it, if keys are compared by that
pub map-insert_key : {A B : Type 0} (f : A → B) (R : A → A → Ordering) (S : B → B → Ordering) → ((x y : A) → R x y ≡ S (f x) (f y))
    → (xs : List A) (k : A) → map f (insert_key R xs k) ≡ insert_key S (map f xs) (f k)
map-insert_key f R S same [] k = refl
map-insert_key {B = B} f R S same (x ∷ xs) k =
    map-match f (R k x) (k ∷ x ∷ xs) (x ∷ xs) (x ∷ insert_key R xs k)
    ∙ ap (λ (o : Ordering). match_ordering o (f k ∷ f x ∷ map f xs) (f x ∷ map f xs) (f x ∷ map f (insert_key R xs k))) (same k x)
    ∙ ap (λ (l : List B). match_ordering (S (f k) (f x)) (f k ∷ f x ∷ map f xs) (f x ∷ map f xs) (f x ∷ l)) (map-insert_key f R S same xs k)
