-- Lists that are mapped one element after another.
use Rattle.std.proofs.Common.{◌≡◌, ℕ, ◌+◌, ◌≤◌, ◌<◌, get_or, List, [], ◌∷◌, ◌++◌, length, map, take, sym, ◌∙◌, ap}
use Rattle.std.proofs.lemmas.List.{map-append, take_all, take_more}

-- the first elements of a list, mapped, and one more
pub mapped-more : {X Y : Type 0} (f : X → Y) (xs : List X) (i : ℕ) (x : X) (y : Y) (seen more : List Y) → i < length xs
    → x ≡ get_or xs i x → y ≡ f x → seen ≡ map f (take i xs) → more ≡ seen ++ y ∷ [] → more ≡ map f (take (i + 1) xs)
mapped-more f xs i x y seen more within item is so pushed =
    pushed ∙ ap (λ ys. ys ++ y ∷ []) so ∙ ap (λ z. map f (take i xs) ++ z ∷ []) is
    ∙ sym (map-append f (take i xs) (x ∷ []))
    ∙ ap (map f) (ap (λ z. take i xs ++ z ∷ []) item ∙ sym (take_more xs i x within))

pub mapped-all : {X Y : Type 0} (f : X → Y) (xs : List X) (i : ℕ) (seen : List Y) → length xs ≤ i → seen ≡ map f (take i xs) → seen ≡ map f xs
mapped-all f xs i seen past so = so ∙ ap (map f) (take_all i xs past)
