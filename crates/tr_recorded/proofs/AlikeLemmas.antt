-- Making an archive's files once more, with the same texts, changes nothing.
use Rattle.std.proofs.Common.{◌≡◌, ◌∙◌, ◌⊎◌, inl, inr, ⊎_elim, ℕ, Bool, true, false, cond, ◌||◌, refl, sym, ap, List, [], ◌∷◌, ◌++◌, map, Option, Some, None}
use Rattle.std.proofs.lemmas.List.Folds.{list_any-append}
use Rattle.std.specs.Cmp.Lexicographic.{bytes_decides, pointwise}
use Rattle.std.specs.List.{AllByRecursion, flat_map, list_any}
use Rattle.std.specs.Option.{option_map_or, option_or}
use Rattle.std.specs.Prelude.{nat_eq}
use Rattle.tr_export.specs.Making.{Makings}
use Rattle.tr_export.specs.declared.made.Made.{Made}
use Rattle.tr_folders.specs.Kept.{file_of}
use Rattle.tr_folders.specs.Tree.{File, Tree}
use Rattle.tr_recorded.proofs.BoxLemmas.{Box, IsBox, Leaf, box_made, leaf_made}
use Rattle.tr_recorded.proofs.ListedLemmas.{any-filtered}
use Rattle.tr_recorded.proofs.StoredLemmas.{IsStored, files-append, or-assoc, or-none, own}
use Rattle.tr_recorded.specs.Made.{Shows, file_made, is_listed, makes_folder, name_below, names_made, path_by, path_made}
use Rattle.tr_survey.specs.Paths.{file_path}

-- a tree that shows what one of them made shows what the other made
pub record AreAlike (a b : Makings) : Type 0 where
  pub names : (path name : List ℕ) → is_listed name (names_made path a) ≡ is_listed name (names_made path b)
  pub folders : (path : List ℕ) → list_any (makes_folder path) a ≡ list_any (makes_folder path) b
  pub files : (path : List ℕ) → file_made path a ≡ file_made path b

pub alike-shows : (t : Tree) (dir : List ℕ) (a b : Makings) → AreAlike a b → Shows t dir a → Shows t dir b
alike-shows t dir a b alike shows = record {
  seen = shows.seen;
  folders = λ through plain.
      let path = path_by dir through in
      shows.folders through plain ∙ ap (λ (x : Bool). pointwise nat_eq path dir || x) (alike.folders path);
  names = λ through plain name. shows.names through plain name ∙ alike.names (path_by dir through) name;
  files = λ through plain. shows.files through plain ∙ alike.files (path_by dir through);
}

pub alike-same : (a b : Makings) → a ≡ b → AreAlike a b
alike-same a b same = record {
  names = λ path name. ap (λ (m : Makings). is_listed name (names_made path m)) same;
  folders = λ path. ap (list_any (makes_folder path)) same;
  files = λ path. ap (file_made path) same;
}

pub alike-further : (a b c : Makings) → AreAlike a b → AreAlike b c → AreAlike a c
alike-further a b c one two = record {
  names = λ path name. one.names path name ∙ two.names path name;
  folders = λ path. one.folders path ∙ two.folders path;
  files = λ path. one.files path ∙ two.files path;
}

-- ---- tests of each thing that was made

-- whether a thing leads to this name in a folder
abbrev leads : List ℕ → List ℕ → Made (List ℕ) (List ℕ) → Bool
leads path name m = option_map_or (pointwise nat_eq name) (name_below path (path_made m)) false

listed-by : (path name : List ℕ) (ms : Makings) → is_listed name (names_made path ms) ≡ list_any (leads path name) ms
listed-by path name ms = any-filtered (pointwise nat_eq name) (λ (m : Made (List ℕ) (List ℕ)). name_below path (path_made m)) ms

pub alike-front : (a b c : Makings) → AreAlike a b → AreAlike (a ++ c) (b ++ c)
alike-front a b c alike = record {
  names = λ path name.
      let q = leads path name in
      listed-by path name (a ++ c) ∙ list_any-append q a c
      ∙ ap (λ (x : Bool). x || list_any q c) (sym (listed-by path name a) ∙ alike.names path name ∙ listed-by path name b)
      ∙ sym (listed-by path name (b ++ c) ∙ list_any-append q b c);
  folders = λ path.
      let q = makes_folder path in
      list_any-append q a c ∙ ap (λ (x : Bool). x || list_any q c) (alike.folders path) ∙ sym (list_any-append q b c);
  files = λ path.
      files-append path a c ∙ ap (λ (o : Option File). option_or (file_made path c) o) (alike.files path) ∙ sym (files-append path b c);
}

-- ---- some of them once more

or-again : (a xs ys : Bool) → (xs || ys) ≡ xs → ((a || xs) || ys) ≡ (a || xs)
or-again true xs ys same = refl
or-again false xs ys same = same

or-both : (a xs ys : Bool) → (xs || ys) ≡ xs → ((a || xs) || (a || ys)) ≡ (a || xs)
or-both true xs ys same = refl
or-both false xs ys same = same

or-three : (x y z : Bool) → (x || y) ≡ x → (x || (y || z)) ≡ (x || z)
or-three true y z same = refl
or-three false true z same = absurd cc
or-three false false z same = refl

same-option : {X : Type 0} (o : Option X) → option_or o o ≡ o
same-option None = refl
same-option (Some x) = refl

module _ {X : Type 0} (f g : X → Makings) where
  -- each is made once more, or not
  abbrev pub MadeAgain : X → Type 0
  MadeAgain x = (g x ≡ []) ⊎ (g x ≡ f x)

  any-again : (q : Made (List ℕ) (List ℕ) → Bool) (xs : List X) → AllByRecursion MadeAgain xs
      → (list_any q (flat_map f xs) || list_any q (flat_map g xs)) ≡ list_any q (flat_map f xs)
  any-again q [] again = refl
  any-again q (x ∷ xs) again =
      let more = any-again q xs again.1 in
      let a = list_any q (f x) in
      let fs = list_any q (flat_map f xs) in
      let gs = list_any q (flat_map g xs) in
      let first = list_any-append q (f x) (flat_map f xs) in
      let second = list_any-append q (g x) (flat_map g xs) in
      ap (λ (t : Bool). t || list_any q (g x ++ flat_map g xs)) first
      ∙ ap (λ (t : Bool). (a || fs) || t) second
      ∙ ⊎_elim (λ none. ap (λ (m : Makings). (a || fs) || (list_any q m || gs)) none ∙ or-again a fs gs more)
      (λ same. ap (λ (m : Makings). (a || fs) || (list_any q m || gs)) same ∙ or-both a fs gs more) again.0
      ∙ sym first

  -- a file of one of them is the file of this path, whatever else is made
  abbrev pub IsOnlyFile : List X → List ℕ → X → Type 0
  IsOnlyFile all path x = (file_made path (f x) ≡ None) ⊎ (file_made path (f x) ≡ file_made path (flat_map f all))

  module _ (all : List X) (path : List ℕ) where
    abbrev there : Option File
    there = file_made path (flat_map f all)

    file-again : (xs : List X) → AllByRecursion MadeAgain xs → AllByRecursion (IsOnlyFile all path) xs
        → (file_made path (flat_map g xs) ≡ None) ⊎ (file_made path (flat_map g xs) ≡ there)
    file-again [] again only = inl refl
    file-again (x ∷ xs) again only =
        let split = files-append path (g x) (flat_map g xs) in
        let one : (file_made path (g x) ≡ None) ⊎ (file_made path (g x) ≡ there) =
        ⊎_elim (λ none. inl (ap (file_made path) none))
        (λ same. ⊎_elim (λ no. inl (ap (file_made path) same ∙ no)) (λ is. inr (ap (file_made path) same ∙ is)) only.0) again.0 in
        ⊎_elim
        (λ none.
        let rest : file_made path (g x ++ flat_map g xs) ≡ file_made path (g x) =
        split ∙ ap (λ (o : Option File). option_or o (file_made path (g x))) none in
        ⊎_elim (λ no. inl (rest ∙ no)) (λ is. inr (rest ∙ is)) one)
        (λ later.
        let rest : file_made path (g x ++ flat_map g xs) ≡ option_or there (file_made path (g x)) =
        split ∙ ap (λ (o : Option File). option_or o (file_made path (g x))) later in
        inr (⊎_elim (λ no. rest ∙ ap (option_or there) no ∙ or-none there) (λ is. rest ∙ ap (option_or there) is ∙ same-option there) one))
        (file-again xs again.1 only.1)

  pub again-alike : (xs : List X) (more : Makings) → AllByRecursion MadeAgain xs → ((path : List ℕ) → AllByRecursion (IsOnlyFile xs path) xs)
      → AreAlike (flat_map f xs ++ (flat_map g xs ++ more)) (flat_map f xs ++ more)
  again-alike xs more again only =
      let fs = flat_map f xs in
      let gs = flat_map g xs in
      record {
        names = λ path name.
            let q = leads path name in
            listed-by path name (fs ++ (gs ++ more)) ∙ tested q ∙ sym (listed-by path name (fs ++ more));
        folders = λ path. tested (makes_folder path);
        files = λ path.
            let o = file_made path in
            files-append path fs (gs ++ more)
            ∙ ap (λ (x : Option File). option_or x (o fs)) (files-append path gs more)
            ∙ or-assoc (o more) (o gs) (o fs)
            ∙ ap (option_or (o more))
            (⊎_elim (λ none. ap (λ (x : Option File). option_or x (o fs)) none)
            (λ is. ap (λ (x : Option File). option_or x (o fs)) is ∙ same-option (o fs)) (file-again xs path xs again (only path)))
            ∙ sym (files-append path fs more);
      }
    where
      tested : (q : Made (List ℕ) (List ℕ) → Bool)
          → list_any q (flat_map f xs ++ (flat_map g xs ++ more)) ≡ list_any q (flat_map f xs ++ more)
      tested q =
          let fs = flat_map f xs in
          let gs = flat_map g xs in
          list_any-append q fs (gs ++ more)
          ∙ ap (λ (t : Bool). list_any q fs || t) (list_any-append q gs more)
          ∙ or-three (list_any q fs) (list_any q gs) (list_any q more) (any-again q xs again)
          ∙ sym (list_any-append q fs more)

-- ---- an archive's files

-- where a file of an archive is
found-in : (folder name path : List ℕ) (ls : List Leaf)
    → (file_made path (map (leaf_made folder name) ls) ≡ None) ⊎ ((file : List ℕ) × (path ≡ file_path folder name file))
found-in folder name path [] = inl refl
found-in folder name path (l ∷ ls) = go (pointwise nat_eq path (file_path folder name l.0)) refl (found-in folder name path ls)
  where
    go : (b : Bool) → pointwise nat_eq path (file_path folder name l.0) ≡ b
        → ((file_made path (map (leaf_made folder name) ls) ≡ None) ⊎ ((file : List ℕ) × (path ≡ file_path folder name file)))
        → ((file_made path (map (leaf_made folder name) (l ∷ ls)) ≡ None) ⊎ ((file : List ℕ) × (path ≡ file_path folder name file)))
    go true e more = inr (l.0, (bytes_decides path (file_path folder name l.0)).0 e)
    go false e (inr file) = inr file
    go false e (inl none) =
        inl (ap (λ (o : Option File). option_or o (cond (pointwise nat_eq path (file_path folder name l.0)) (Some (file_of l.1 false)) None)) none
        ∙ ap (λ (t : Bool). cond t (Some (file_of l.1 false)) None) e)

pub only-file : (folder path : List ℕ) (ms : Makings) (b : Box) → IsBox b → IsStored folder ms b
    → (file_made path (box_made folder b) ≡ None) ⊎ (file_made path (box_made folder b) ≡ file_made path ms)
only-file folder path ms b is stored =
    ⊎_elim (λ none. inl (or-none (file_made path (map (leaf_made folder b.archive.name) b.leaves)) ∙ none))
    (λ (found : (file : List ℕ) × (path ≡ file_path folder b.archive.name file)).
    inr
    (ap (λ (p : List ℕ). file_made p (box_made folder b)) found.1 ∙ (own folder b is).files found.0
    ∙ sym (ap (λ (p : List ℕ). file_made p ms) found.1 ∙ stored.files found.0)))
    (found-in folder b.archive.name path b.leaves)
