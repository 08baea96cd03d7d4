-- The paths of archives.
use Rattle.std.specs.Prelude.{ℕ, List, ◌++◌, codes}

-- DIR/NAME/archives/ARCHIVE
abbrev pub folder_of : List ℕ → List ℕ → List ℕ → List ℕ
folder_of dir name archive = dir ++ (codes "/" ++ (name ++ (codes "/archives/" ++ archive)))

-- FOLDER/FILE
abbrev pub path_of : List ℕ → List ℕ → List ℕ
path_of folder file = folder ++ (codes "/" ++ file)
