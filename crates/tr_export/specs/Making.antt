-- What is made on a disk, one after another.
use Rattle.std.specs.Prelude.{◌≡◌, ◌⊎◌, ℕ, List, [], ◌∷◌, ◌++◌, Option, Some, None, option_map}
use Rattle.tr_export.specs.declared.made.Made.{Made}
use Rattle.tr_export.specs.declared.made.Made.TheVariants.{Folder, File, Broken}

-- folders and files, by the texts of their paths
abbrev pub Makings : Type 0
Makings = List (Made (List ℕ) (List ℕ))

-- what is known to have been made, and then these; nothing is known of a file system
abbrev pub and_then_made : Option Makings → Makings → Option Makings
and_then_made known more = option_map (λ before. before ++ more) known

-- and then a file with the text that went into it
abbrev pub with_file : Option Makings → List ℕ → Option (List ℕ) → Option Makings
with_file None path text = None
with_file (Some before) path None = None
with_file (Some before) path (Some text) = Some (before ++ File path text ∷ [])

-- a new file has no text, if it is known what is made
abbrev pub nothing_in : Option Makings → Option (List ℕ)
nothing_in known = option_map (λ _. []) known

-- a broken file becomes a file with these bytes
abbrev pub closed_with : {P B : Type 0} → Made P B → B → Made P B
closed_with (Broken path) bytes = File path bytes
closed_with (Folder path) bytes = Folder path
closed_with (File path text) bytes = File path text

-- if a broken file was made last, it is a file with this text now
abbrev pub ClosesLast : Option Makings → Option Makings → Option (List ℕ) → Type 0
ClosesLast before after text =
    (known : Option Makings) (path : List ℕ) → before ≡ and_then_made known (Broken path ∷ [])
    → after ≡ with_file known path text

-- the first of what is to be made, broken, if it is a file
abbrev pub broken_first : Makings → Makings
broken_first [] = []
broken_first (Folder path ∷ rest) = []
broken_first (File path text ∷ rest) = Broken path ∷ []
broken_first (Broken path ∷ rest) = []

-- a prefix of these was made, and nothing more, or the file that comes next is broken
abbrev pub MadePrefix : Option Makings → Option Makings → Makings → Type 0
MadePrefix before after all =
    (front : Makings) × (rest : Makings) × (all ≡ front ++ rest)
    × ((after ≡ and_then_made before front) ⊎ (after ≡ and_then_made before (front ++ broken_first rest)))
