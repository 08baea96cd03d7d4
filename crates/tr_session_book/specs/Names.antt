-- Maps by name, as their names' texts and values.
use Rattle.std.specs.Prelude.{ℕ, IsTrue, String, List, map}
use Rattle.std.specs.List.{list_all}
use Rattle.std.specs.String.{string_bytes}
use Rattle.tr_terms.specs.Names.{is_name}

-- the entries, with the texts of the names, in order of addition
abbrev pub by_name : {Z X : Type 0} → List (String Z × X) → List (List ℕ × X)
by_name es = map (λ e. (string_bytes e.0, e.1)) es

-- each has a valid name
abbrev pub AreNamed : {X : Type 0} → List (List ℕ × X) → Type 0
AreNamed es = IsTrue (list_all (λ e. is_name e.0) es)
