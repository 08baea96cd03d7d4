-- Which rows a folder has.
use Rattle.std.proofs.Common.{◌≡◌, ◌∙◌, ◌++◌, ℕ, Bool, true, false, cond, List, [], ◌∷◌, Option, Some, map, ap, sym, append_assoc}
use Rattle.std.proofs.lemmas.List.{map-append}
use Rattle.std.specs.Prelude.{unwrap_or}
use Rattle.tr_folders.specs.Tree.{Tree}
use Rattle.tr_picture.specs.Sessions.{archives_lines, folder_lines, line_of, name_lines}
use Rattle.tr_picture.specs.declared.frame.Frame.{Frame}
use Rattle.tr_survey.specs.Identifiers.{judged_by}
use Rattle.tr_survey.specs.Listing.{archives_of, streams_of}
use Rattle.tr_survey.specs.Order.{Numbered}
use Rattle.tr_survey.specs.Paths.{archives_folder}
use Rattle.tr_survey.specs.Sessions.{identity_of, namings_of}
use Rattle.tr_survey.specs.declared.identifiers.Identity.{Identity}
use Rattle.tr_survey.specs.declared.naming.Naming.{Naming}
use Rattle.tr_terms.specs.Names.{is_name}

-- one more was found, and the rest is still to come
pub one_more : {A B L : Type 0} (view : L → B) (f : A → B) (found : List L) (made : L) (x : A) (xs : List A) → view made ≡ f x
    → map view (found ++ made ∷ []) ++ map f xs ≡ map view found ++ map f (x ∷ xs)
one_more view f found made x xs is =
    ap (λ l. l ++ map f xs) (map-append view found (made ∷ []))
    ∙ append_assoc (map view found) (view made ∷ []) (map f xs)
    ∙ ap (λ b. map view found ++ (b ∷ map f xs)) is

pub listed : (f : Frame) (t : Tree) (session folder uuid : List ℕ) (archives streams others : List Numbered) (namings : List Naming) (identity : Identity)
    → namings ≡ namings_of t folder archives → streams ≡ streams_of t folder archives → others ≡ streams
    → identity ≡ identity_of t folder archives namings streams → uuid ≡ judged_by identity
    → map (line_of f t session folder uuid archives) others ≡ archives_lines f t session folder archives
listed f t session folder uuid archives streams others namings identity named there same is judged =
    ap (λ (u : List ℕ). map (line_of f t session folder u archives) others)
    (judged ∙ ap judged_by (is ∙ ap (λ (n : List Naming). identity_of t folder archives n streams) named
    ∙ ap (identity_of t folder archives (namings_of t folder archives)) there))
    ∙ ap (map (line_of f t session folder (judged_by (identity_of t folder archives (namings_of t folder archives) (streams_of t folder archives))) archives))
    (same ∙ there)

pub opened_lines : (f : Frame) (t : Tree) (dir name path : List ℕ) (names : List (List ℕ)) → is_name name ≡ true → path ≡ archives_folder dir name
    → t.is_hidden path ≡ false → t.names path ≡ Some names
    → name_lines f t dir name ≡ archives_lines f t name path (archives_of t path names)
opened_lines f t dir name path names named is seen some =
    let p = archives_folder dir name in
    ap (λ (b : Bool). cond b (folder_lines f t name p) []) named
    ∙ ap (λ (h : Bool). cond h [] (archives_lines f t name p (archives_of t p (cond h [] (unwrap_or (t.names p) []))))) (sym (ap t.is_hidden is) ∙ seen)
    ∙ ap (λ (o : Option (List (List ℕ))). archives_lines f t name p (archives_of t p (unwrap_or o []))) (sym (ap t.names is) ∙ some)
    ∙ ap (λ (l : List ℕ). archives_lines f t name l (archives_of t l names)) (sym is)
