-- A name has no slash and no dot.
use Rattle.std.proofs.Common.{◌≡◌, ℕ, true, List, [], ◌∷◌, refl, arith}
use Rattle.std.proofs.lemmas.Bool.Decides.{nat_tests}
use Rattle.std.specs.List.{list_all}
use Rattle.tr_terms.proofs.BoolLemmas.{both}
use Rattle.tr_terms.specs.Names.{is_letter, is_name, is_of_name, is_plain}

letter-plain : (b : ℕ) → is_letter b ≡ true → is_plain b ≡ true
letter-plain b e = grind (arith, nat_tests, e)

of_name-plain : (b : ℕ) → is_of_name b ≡ true → is_plain b ≡ true
of_name-plain b e = grind (arith, nat_tests, e)

all-plain : (bytes : List ℕ) → list_all is_of_name bytes ≡ true → list_all is_plain bytes ≡ true
all-plain [] e = refl
all-plain (b ∷ bytes) e = let h = both (is_of_name b) (list_all is_of_name bytes) e in rw (of_name-plain b h.0) (all-plain bytes h.1)

pub name-plain : (bytes : List ℕ) → is_name bytes ≡ true → list_all is_plain bytes ≡ true
name-plain [] e = cc
name-plain (b ∷ bytes) e =
    let letter = both (is_letter b) _ e in
    let others = both (list_all is_of_name bytes) _ letter.1 in
    rw (letter-plain b letter.0) (all-plain bytes others.0)
