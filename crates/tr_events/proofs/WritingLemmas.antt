-- Texts that are written one element after another.
use Rattle.std.proofs.Common.{◌≡◌, ℕ, ◌+◌, ◌<◌, get_or, List, [], ◌∷◌, ◌++◌, length, take, sym, ◌∙◌, ap, append_assoc, append-nil}
use Rattle.std.specs.List.{flat_map}
use Rattle.std.proofs.lemmas.List.{take_more}
use Rattle.std.proofs.lemmas.List.Concat.{flat_map-append}

-- one element more
pub one_more : {X Y : Type 0} (f : X → List Y) (xs : List X) (i : ℕ) (x : X) (old seen new : List Y) → i < length xs → x ≡ get_or xs i x
    → seen ≡ old ++ flat_map f (take i xs) → new ≡ seen ++ f x → new ≡ old ++ flat_map f (take (i + 1) xs)
one_more f xs i x old seen new within item so pushed =
    pushed ∙ ap (λ t. t ++ f x) so ∙ append_assoc old (flat_map f (take i xs)) (f x)
    ∙ ap (λ t. old ++ t) (ap (λ z. flat_map f (take i xs) ++ z) (sym (append-nil (f x))) ∙ sym (flat_map-append f (take i xs) (x ∷ []))
    ∙ ap (flat_map f) (ap (λ z. take i xs ++ z ∷ []) item ∙ sym (take_more xs i x within)))
