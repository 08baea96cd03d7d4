-- The paths of archives, as they are written and as they are read.
use Rattle.std.proofs.Common.{◌≡◌, ◌∙◌, ℕ, List, ◌∷◌, ◌++◌, sym, ap, append_assoc}
use Rattle.std.specs.Prelude.{codes}
use Rattle.tr_export.specs.Paths as export
use Rattle.tr_survey.specs.Paths.{archives_folder, file_path, path_of}

-- a path below the folder of a session's archives
pub below : (dir session rest : List ℕ) → archives_folder dir session ++ rest ≡ dir ++ (codes "/" ++ (session ++ (codes "/archives" ++ rest)))
below dir session rest =
    append_assoc dir (codes "/" ++ (session ++ codes "/archives")) rest
    ∙ ap (λ (l : List ℕ). dir ++ (47 ∷ l)) (append_assoc session (codes "/archives") rest)

pub folder_is : (dir session archive : List ℕ) → path_of (archives_folder dir session) archive ≡ export.folder_of dir session archive
folder_is dir session archive = below dir session (codes "/" ++ archive)

pub file_is : (dir session archive file : List ℕ)
    → file_path (archives_folder dir session) archive file ≡ export.path_of (export.folder_of dir session archive) file
file_is dir session archive file =
    below dir session (codes "/" ++ (archive ++ (codes "/" ++ file)))
    ∙ sym (append_assoc dir (codes "/" ++ (session ++ (codes "/archives/" ++ archive))) (codes "/" ++ file)
    ∙ ap (λ (l : List ℕ). dir ++ (47 ∷ l)) (append_assoc session (codes "/archives/" ++ archive) (codes "/" ++ file)))
