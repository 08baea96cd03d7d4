-- A name is a text.
use Rattle.std.proofs.Common.{◌≡◌, ◌<◌, ◌≤◌, ◌&&◌, ◌||◌, ℕ, Bool, true, false, refl, arith, List, [], ◌∷◌, length, nat_le, zero, suc, lit<}
use Rattle.std.specs.List.{list_all}
use Rattle.std.specs.Str.{IsAscii, IsUtf8}
use Rattle.std.proofs.lemmas.Grind.{common_steps}
use Rattle.std.proofs.lemmas.Str.{IsUtf8-from_ascii}
use Rattle.tr_terms.proofs.BoolLemmas.{both}
use Rattle.tr_terms.specs.Names.{is_letter, is_name, is_of_name}

of_name-ascii : (b : ℕ) → is_of_name b ≡ true → b < 128
of_name-ascii b e = grind (arith, common_steps)

letter-ascii : (b : ℕ) → is_letter b ≡ true → b < 128
letter-ascii b e = grind (arith, common_steps)

all_ascii : (bytes : List ℕ) → list_all is_of_name bytes ≡ true → IsAscii bytes
all_ascii [] e i = lit< tt
all_ascii (b ∷ bs) e zero = of_name-ascii b (both _ _ e).0
all_ascii (b ∷ bs) e (suc i) = all_ascii bs (both _ _ e).1 i

name-ascii : (bytes : List ℕ) → is_name bytes ≡ true → IsAscii bytes
name-ascii [] e i = lit< tt
name-ascii (b ∷ bs) e zero = letter-ascii b (both _ _ e).0
name-ascii (b ∷ bs) e (suc i) = all_ascii bs (both _ _ (both _ _ e).1).0 i

pub name_is_text : (bytes : List ℕ) → is_name bytes ≡ true → IsUtf8 bytes
name_is_text bytes e = IsUtf8-from_ascii bytes (name-ascii bytes e)
