-- What is in a folder that was empty, after folders and files were made there.
use Rattle.std.specs.Prelude.{◌≡◌, ℕ, Bool, true, false, ◌||◌, ◌==◌, nat_eq, List, [], ◌∷◌, Option, Some, None, is_some, unwrap_or, if◌then◌else◌}
use Rattle.std.specs.Cmp.Lexicographic.{pointwise}
use Rattle.std.specs.List.{AllByRecursion, filter_map, list_all, list_any}
use Rattle.std.specs.Option.{option_or}
use Rattle.tr_export.specs.Making.{Makings}
use Rattle.tr_export.specs.declared.made.Made.{Made}
use Rattle.tr_export.specs.declared.made.Made.TheVariants.{Folder, File, Broken}
use Rattle.tr_folders.specs.Kept.{file_of}
use Rattle.tr_folders.specs.Tree as folders
use Rattle.tr_survey.specs.Paths.{path_of}
use Rattle.tr_terms.specs.Names.{is_plain}

abbrev pub path_made : Made (List ℕ) (List ℕ) → List ℕ
path_made (Folder path) = path
path_made (File path text) = path
path_made (Broken path) = path

-- ---- folders

-- what a path has before its first slash
abbrev pub first_name : List ℕ → List ℕ
first_name [] = []
first_name (b ∷ path) = if b == 47 then [] else b ∷ first_name path

-- the name in a folder through which a path leads; none: it doesn't lead below the folder
abbrev pub name_below : List ℕ → List ℕ → Option (List ℕ)
name_below [] [] = None
name_below [] (c ∷ path) = if c == 47 then Some (first_name path) else None
name_below (b ∷ folder) [] = None
name_below (b ∷ folder) (c ∷ path) = if b == c then name_below folder path else None

-- the names in a folder, one for each thing that was made below it
abbrev pub names_made : List ℕ → Makings → List (List ℕ)
names_made folder = filter_map (λ (m : Made (List ℕ) (List ℕ)). name_below folder (path_made m))

abbrev pub is_folder_at : List ℕ → Made (List ℕ) (List ℕ) → Bool
is_folder_at path (Folder own) = pointwise nat_eq path own
is_folder_at path (File own text) = false
is_folder_at path (Broken own) = false

-- the folder there was made, or something below it
abbrev pub makes_folder : List ℕ → Made (List ℕ) (List ℕ) → Bool
makes_folder path m = is_some (name_below path (path_made m)) || is_folder_at path m

-- the folder there is the one that was empty, or it was made
abbrev pub is_folder_made : List ℕ → Makings → List ℕ → Bool
is_folder_made dir made path = pointwise nat_eq path dir || list_any (makes_folder path) made

-- ---- files

-- a file of this path; what is in a broken one isn't known
abbrev pub file_at : List ℕ → Made (List ℕ) (List ℕ) → Option folders.File
file_at path (Folder own) = None
file_at path (File own text) = if pointwise nat_eq path own then Some (file_of text false) else None
file_at path (Broken own) = if pointwise nat_eq path own then Some (file_of [] true) else None

-- the last one of this path that was made, which replaced those before it
abbrev pub file_made : List ℕ → Makings → Option folders.File
file_made path [] = None
file_made path (m ∷ made) = option_or (file_made path made) (file_at path m)

-- ---- all of it

-- the name is one of these
abbrev pub is_listed : List ℕ → List (List ℕ) → Bool
is_listed name = list_any (pointwise nat_eq name)

-- the folders and files that are then in a folder that was empty
abbrev pub tree_made : List ℕ → Makings → folders.Tree
tree_made dir made = record {
  names = λ path. if is_folder_made dir made path then Some (names_made path made) else None;
  is_hidden = λ path. false;
  file = λ path. file_made path made;
}

-- a name in a path: not empty, and without a slash or a dot
abbrev pub is_plain_name : List ℕ → Bool
is_plain_name [] = false
is_plain_name (b ∷ name) = list_all is_plain (b ∷ name)

-- the path from a folder on through these names
abbrev pub path_by : List ℕ → List (List ℕ) → List ℕ
path_by folder [] = folder
path_by folder (name ∷ names) = path_by (path_of folder name) names

abbrev pub ArePlain : List (List ℕ) → Type 0
ArePlain = AllByRecursion (λ (name : List ℕ). is_plain_name name ≡ true)

-- below a folder that was empty are these folders and files and nothing beside them, by paths through plain names; each can be
-- read, and names are listed in any order
pub record Shows (t : folders.Tree) (dir : List ℕ) (made : Makings) : Type 0 where
  pub seen : (through : List (List ℕ)) → ArePlain through → t.is_hidden (path_by dir through) ≡ false
  pub folders : (through : List (List ℕ)) → ArePlain through
      → is_some (t.names (path_by dir through)) ≡ is_folder_made dir made (path_by dir through)
  pub names : (through : List (List ℕ)) → ArePlain through → (name : List ℕ)
      → is_listed name (unwrap_or (t.names (path_by dir through)) []) ≡ is_listed name (names_made (path_by dir through) made)
  pub files : (through : List (List ℕ)) → ArePlain through → t.file (path_by dir through) ≡ file_made (path_by dir through) made
