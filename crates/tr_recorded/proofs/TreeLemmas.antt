-- Folders and files that are where things were made.
use Rattle.std.proofs.Common.{◌≡◌, ℕ, Bool, true, false, true≢false, cond, ◌||◌, refl, sym, ap, List, [], ◌∷◌, Option, Some, None}
use Rattle.std.specs.Cmp.Lexicographic.{pointwise}
use Rattle.std.specs.List.{cons_option, list_any}
use Rattle.std.specs.Prelude.{is_some, nat_eq, unwrap_or}
use Rattle.tr_export.specs.Making.{Makings}
use Rattle.tr_recorded.specs.Made.{Shows, is_folder_at, is_folder_made, is_listed, makes_folder, name_below, names_made, path_by, path_made, tree_made}

-- where there is no folder nothing is below
none-below : (path : List ℕ) (made : Makings) → list_any (makes_folder path) made ≡ false → names_made path made ≡ []
none-below path [] none = refl
none-below path (m ∷ made) none = go (name_below path (path_made m)) none (none-below path made)
  where
    go : (o : Option (List ℕ)) → ((is_some o || is_folder_at path m) || list_any (makes_folder path) made) ≡ false
        → (list_any (makes_folder path) made ≡ false → names_made path made ≡ []) → cons_option o (names_made path made) ≡ []
    go (Some name) none more = absurd (true≢false none)
    go None none more = more (later (is_folder_at path m) (list_any (makes_folder path) made) none)
      where
        later : (a b : Bool) → (a || b) ≡ false → b ≡ false
        later true b e = absurd (true≢false e)
        later false b e = e

there : (b : Bool) (names : List (List ℕ)) → is_some (cond b (Some names) None) ≡ b
there true names = refl
there false names = refl

pub tree-shows : (dir : List ℕ) (made : Makings) → Shows (tree_made dir made) dir made
tree-shows dir made = record {
  seen = λ through plain. refl;
  folders = λ through plain. there (is_folder_made dir made (path_by dir through)) (names_made (path_by dir through) made);
  names = λ through plain name.
      let path = path_by dir through in
      listed (pointwise nat_eq path dir) (list_any (makes_folder path) made) path name (none-below path made);
  files = λ through plain. refl;
}
  where
    listed : (a b : Bool) (path name : List ℕ) → (b ≡ false → names_made path made ≡ [])
        → is_listed name (unwrap_or (cond (a || b) (Some (names_made path made)) None) []) ≡ is_listed name (names_made path made)
    listed true b path name none = refl
    listed false true path name none = refl
    listed false false path name none = ap (is_listed name) (sym (none refl))
