-- Texts that are written part by part.
use Rattle.std.proofs.Common.{◌≡◌, ℕ, List, ◌++◌, ap, ◌∙◌, append_assoc}
use Rattle.std.specs.Prelude.{Result, Ok, Err, OnOk}

pub three_parts : (old a b c x y z : List ℕ) → x ≡ old ++ a → y ≡ x ++ b → z ≡ y ++ c → z ≡ old ++ (a ++ (b ++ c))
three_parts old a b c x y z first second third =
    third ∙ ap (λ (t : List ℕ). t ++ c) (second ∙ ap (λ (t : List ℕ). t ++ b) first) ∙ regroup old a b c
  where
    regroup : (old a b c : List ℕ) → ((old ++ a) ++ b) ++ c ≡ old ++ (a ++ (b ++ c))
    regroup old a b c = simp append_assoc

-- if the last part was written
pub three_if_ok : {T E : Type 0} (r : Result T E) (old a b c x y z : List ℕ) → x ≡ old ++ a → y ≡ x ++ b
    → OnOk r (z ≡ y ++ c) → OnOk r (z ≡ old ++ (a ++ (b ++ c)))
three_if_ok (Ok t) old a b c x y z first second third = three_parts old a b c x y z first second third
three_if_ok (Err e) old a b c x y z first second third = tt
