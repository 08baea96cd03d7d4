-- What folders in memory keep.
use Rattle.std.specs.Prelude.{ℕ, Bool, String, string_bytes, Vec, List, [], ◌∷◌, Option, Some, None, nat_eq, option_map, if◌then◌else◌}
use Rattle.std.specs.Cmp.Lexicographic.{pointwise}
use Rattle.std.specs.List.{list_any}
use Rattle.tr_folders.specs.Tree.{File, Tree, by_text}

-- the names in the first folder of this path
abbrev pub names_kept : {Z : Type 0} → List (String Z × Vec (String Z) Z) → List ℕ → Option (List (List ℕ))
names_kept [] path = None
names_kept (f ∷ folders) path = if pointwise nat_eq (string_bytes f.0) path then Some (by_text f.1.items) else names_kept folders path

-- the bytes of the first file of this path
abbrev pub bytes_kept : {Z : Type 0} → List (String Z × Vec ℕ Z) → List ℕ → Option (List ℕ)
bytes_kept [] path = None
bytes_kept (f ∷ files) path = if pointwise nat_eq (string_bytes f.0) path then Some f.1.items else bytes_kept files path

-- the path is one of these
abbrev pub is_among : {Z : Type 0} → List (String Z) → List ℕ → Bool
is_among {Z = Z} paths path = list_any (λ (p : String Z). pointwise nat_eq (string_bytes p) path) paths

abbrev pub file_of : List ℕ → Bool → File
file_of bytes breaks = record { bytes = bytes; breaks = breaks }

-- folders, files, and the paths of those that can't be read; such a file still gives the bytes that it has
abbrev pub tree_kept : {Z : Type 0} → List (String Z × Vec (String Z) Z) → List (String Z × Vec ℕ Z) → List (String Z) → Tree
tree_kept folders files hidden = record {
  names = names_kept folders;
  is_hidden = is_among hidden;
  file = λ path. option_map (λ bytes. file_of bytes (is_among hidden path)) (bytes_kept files path);
}
