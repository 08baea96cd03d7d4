-- The paths of what is read, and what is there.
use Rattle.std.specs.Prelude.{ℕ, List, ◌++◌, codes, Option}
use Rattle.tr_chunk.specs.Files.{file_name}
use Rattle.tr_folders.specs.Tree.{File, Tree}
use Rattle.tr_survey.specs.Order.{Numbered}

-- FOLDER/NAME
abbrev pub path_of : List ℕ → List ℕ → List ℕ
path_of folder name = folder ++ (codes "/" ++ name)

-- FOLDER/ARCHIVE/FILE
abbrev pub file_path : List ℕ → List ℕ → List ℕ → List ℕ
file_path folder archive file = folder ++ (codes "/" ++ (archive ++ (codes "/" ++ file)))

-- DIR/SESSION/archives
abbrev pub archives_folder : List ℕ → List ℕ → List ℕ
archives_folder dir session = dir ++ (codes "/" ++ (session ++ codes "/archives"))

-- a stream's file in an archive of a folder
abbrev pub file_in : Tree → List ℕ → Numbered → Numbered → Option File
file_in t folder stream archive = t.file (file_path folder archive.name (file_name stream.name stream.number))
