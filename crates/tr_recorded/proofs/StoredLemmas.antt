-- What is in the folder of each archive.
use Rattle.std.proofs.Common.{◌≡◌, ◌≢◌, ◌∙◌, ◌<◌, ◌≤◌, ◌+◌, ℕ, suc, Bool, true, false, cond, eqb, ◌||◌, refl, sym, ap, subst, arith, List, [], ◌∷◌, ◌++◌, length, map, Option, Some, None, append_assoc, append-nil}
use Rattle.std.proofs.lemmas.Grind.{flat_map-append}
use Rattle.std.proofs.lemmas.List.Folds.{list_any-append}
use Rattle.std.specs.Cmp.Lexicographic.{bytes_decides, pointwise}
use Rattle.std.specs.List.{AllByRecursion, cons_option, list_any}
use Rattle.std.specs.Option.{option_or}
use Rattle.std.specs.Prelude.{is_some}
use Rattle.tr_export.specs.Making.{Makings}
use Rattle.tr_folders.specs.Kept.{file_of}
use Rattle.tr_folders.specs.Tree.{File}
use Rattle.tr_recorded.proofs.BelowLemmas.{HasNoSlash, below-front, below-is, beside, not-below, other-path, same-front, same-name}
use Rattle.tr_recorded.proofs.BoxLemmas.{Box, IsBox, Leaf, archives_in, box_made, boxes_made, leaf_made, names-append}
use Rattle.tr_recorded.proofs.OrderLemmas.{Numbers}
use Rattle.tr_recorded.specs.Made.{file_at, file_made, makes_folder, name_below, names_made}
use Rattle.tr_survey.specs.Names.{archive_number}
use Rattle.tr_survey.specs.Paths.{file_path, path_of}

-- the last of these files that has this name
abbrev pub leaf_file : List ℕ → List Leaf → Option File
leaf_file name [] = None
leaf_file name (l ∷ ls) = option_or (leaf_file name ls) (cond (pointwise eqb name l.0) (Some (file_of l.1 false)) None)

-- an archive's folder lists its files' names, and has its files
pub record IsStored (folder : List ℕ) (ms : Makings) (b : Box) : Type 0 where
  pub names : names_made (path_of folder b.archive.name) ms ≡ map (λ (l : Leaf). l.0) b.leaves
  pub files : (name : List ℕ) → file_made (file_path folder b.archive.name name) ms ≡ leaf_file name b.leaves
  pub made : list_any (makes_folder (path_of folder b.archive.name)) ms ≡ true

pub or-none : {X : Type 0} (o : Option X) → option_or o None ≡ o
or-none None = refl
or-none (Some x) = refl

pub or-assoc : {X : Type 0} (a b c : Option X) → option_or (option_or a b) c ≡ option_or a (option_or b c)
or-assoc None b c = refl
or-assoc (Some x) b c = refl

or-true : (b : Bool) → (b || true) ≡ true
or-true true = refl
or-true false = refl

pub files-append : (path : List ℕ) (xs ys : Makings) → file_made path (xs ++ ys) ≡ option_or (file_made path ys) (file_made path xs)
files-append path [] ys = sym (or-none (file_made path ys))
files-append path (m ∷ xs) ys =
    ap (λ (o : Option File). option_or o (file_at path m)) (files-append path xs ys)
    ∙ or-assoc (file_made path ys) (file_made path xs) (file_at path m)

-- ---- its own

own-folder : (folder name : List ℕ) → HasNoSlash name → name_below (path_of folder name) (path_of folder name) ≡ None
own-folder folder name plain = below-front folder (47 ∷ name) (47 ∷ name) ∙ not-below name name plain plain

own-names : (folder name : List ℕ) (ls : List Leaf) → AllByRecursion (λ (l : Leaf). HasNoSlash l.0) ls
    → names_made (path_of folder name) (map (leaf_made folder name) ls) ≡ map (λ (l : Leaf). l.0) ls
own-names folder name [] plain = refl
own-names folder name (l ∷ ls) plain =
    ap (λ (o : Option (List ℕ)). cons_option o (names_made (path_of folder name) (map (leaf_made folder name) ls)))
    (below-front folder (47 ∷ name) (47 ∷ (name ++ (47 ∷ l.0))) ∙ below-is name l.0 plain.0)
    ∙ ap (λ (x : List (List ℕ)). l.0 ∷ x) (own-names folder name ls plain.1)

own-files : (folder name file : List ℕ) (ls : List Leaf)
    → file_made (file_path folder name file) (map (leaf_made folder name) ls) ≡ leaf_file file ls
own-files folder name file [] = refl
own-files folder name file (l ∷ ls) =
    ap (λ (b : Bool). option_or (file_made (file_path folder name file) (map (leaf_made folder name) ls)) (cond b (Some (file_of l.1 false)) None))
    (same-front folder (47 ∷ (name ++ (47 ∷ file))) (47 ∷ (name ++ (47 ∷ l.0))) ∙ same-front name (47 ∷ file) (47 ∷ l.0))
    ∙ ap (λ (o : Option File). option_or o (cond (pointwise eqb file l.0) (Some (file_of l.1 false)) None)) (own-files folder name file ls)

pub own : (folder : List ℕ) (b : Box) → IsBox b → IsStored folder (box_made folder b) b
own folder b is = record {
  names = ap (λ (o : Option (List ℕ)). cons_option o (names_made (path_of folder b.archive.name) (map (leaf_made folder b.archive.name) b.leaves)))
      (own-folder folder b.archive.name is.plain)
      ∙ own-names folder b.archive.name b.leaves is.leaves;
  files = λ name.
      or-none (file_made (file_path folder b.archive.name name) (map (leaf_made folder b.archive.name) b.leaves))
      ∙ own-files folder b.archive.name name b.leaves;
  made =
      let at = path_of folder b.archive.name in
      ap (λ (t : Bool). (is_some (name_below at at) || t) || list_any (makes_folder at) (map (leaf_made folder b.archive.name) b.leaves)) (same-name at)
      ∙ ap (λ (t : Bool). t || list_any (makes_folder at) (map (leaf_made folder b.archive.name) b.leaves)) (or-true (is_some (name_below at at)));
}

-- ---- beside others

abbrev Differs : List ℕ → List Box → Type 0
Differs name = AllByRecursion (λ (b : Box). pointwise eqb name b.archive.name ≡ false)

no-names-in : (folder name other : List ℕ) (ls : List Leaf) → HasNoSlash name → HasNoSlash other → pointwise eqb name other ≡ false
    → names_made (path_of folder name) (map (leaf_made folder other) ls) ≡ []
no-names-in folder name other [] plain its differ = refl
no-names-in folder name other (l ∷ ls) plain its differ =
    ap (λ (o : Option (List ℕ)). cons_option o (names_made (path_of folder name) (map (leaf_made folder other) ls)))
    (below-front folder (47 ∷ name) (47 ∷ (other ++ (47 ∷ l.0))) ∙ beside name other l.0 plain its differ)
    ∙ no-names-in folder name other ls plain its differ

no-names : (folder name : List ℕ) (boxes : List Box) → HasNoSlash name → AllByRecursion IsBox boxes → Differs name boxes
    → names_made (path_of folder name) (boxes_made folder boxes) ≡ []
no-names folder name [] plain are differ = refl
no-names folder name (b ∷ boxes) plain are differ =
    let at = path_of folder name in
    names-append at (box_made folder b) (boxes_made folder boxes)
    ∙ ap (λ (l : List (List ℕ)). names_made at (box_made folder b) ++ l) (no-names folder name boxes plain are.1 differ.1)
    ∙ append-nil (names_made at (box_made folder b))
    ∙ ap (λ (o : Option (List ℕ)). cons_option o (names_made at (map (leaf_made folder b.archive.name) b.leaves)))
    (below-front folder (47 ∷ name) (47 ∷ b.archive.name) ∙ not-below name b.archive.name plain are.0.plain)
    ∙ no-names-in folder name b.archive.name b.leaves plain are.0.plain differ.0

no-files-in : (folder name other file : List ℕ) (ls : List Leaf) → HasNoSlash name → HasNoSlash other → pointwise eqb name other ≡ false
    → file_made (file_path folder name file) (map (leaf_made folder other) ls) ≡ None
no-files-in folder name other file [] plain its differ = refl
no-files-in folder name other file (l ∷ ls) plain its differ =
    ap (λ (o : Option File). option_or o (file_at (file_path folder name file) (leaf_made folder other l)))
    (no-files-in folder name other file ls plain its differ)
    ∙ ap (λ (b : Bool). cond b (Some (file_of l.1 false)) None)
    (same-front folder (47 ∷ (name ++ (47 ∷ file))) (47 ∷ (other ++ (47 ∷ l.0))) ∙ other-path name other file l.0 plain its differ)

no-files : (folder name file : List ℕ) (boxes : List Box) → HasNoSlash name → AllByRecursion IsBox boxes → Differs name boxes
    → file_made (file_path folder name file) (boxes_made folder boxes) ≡ None
no-files folder name file [] plain are differ = refl
no-files folder name file (b ∷ boxes) plain are differ =
    let path = file_path folder name file in
    files-append path (box_made folder b) (boxes_made folder boxes)
    ∙ ap (λ (o : Option File). option_or o (file_made path (box_made folder b))) (no-files folder name file boxes plain are.1 differ.1)
    ∙ or-none (file_made path (map (leaf_made folder b.archive.name) b.leaves))
    ∙ no-files-in folder name b.archive.name file b.leaves plain are.0.plain differ.0

-- ---- all of them

some-is : (m n : ℕ) → Some m ≡ Some n → m ≡ n
some-is m n e = cc

differ-by : (name other : List ℕ) (m n : ℕ) → archive_number name ≡ Some m → archive_number other ≡ Some n → m ≢ n → pointwise eqb name other ≡ false
differ-by name other m n own its apart = go (pointwise eqb name other) refl
  where
    go : (b : Bool) → pointwise eqb name other ≡ b → b ≡ false
    go false e = refl
    go true e =
        let is : name ≡ other = (bytes_decides name other).0 e in
        absurd (apart (some-is m n (sym own ∙ ap archive_number is ∙ its)))

later-differ : (j n : ℕ) (name : List ℕ) (boxes : List Box) → archive_number name ≡ Some n → n < j → AllByRecursion IsBox boxes
    → Numbers j (archives_in boxes) → Differs name boxes
later-differ j n name [] number lt are numbers = tt
later-differ j n name (b ∷ boxes) number lt are numbers = (
  differ-by name b.archive.name n b.archive.number number are.0.number (λ e. omega (arith, e, lt, numbers.0)),
  later-differ (j + 1) n name boxes number (omega (arith, lt)) are.1 numbers.1,
)

earlier-differ : (j n : ℕ) (name : List ℕ) (boxes : List Box) → archive_number name ≡ Some n → j + length boxes ≤ n → AllByRecursion IsBox boxes
    → Numbers j (archives_in boxes) → Differs name boxes
earlier-differ j n name [] number le are numbers = tt
earlier-differ j n name (b ∷ boxes) number le are numbers = (
  differ-by name b.archive.name n b.archive.number number are.0.number (λ e. omega (arith, e, le, numbers.0)),
  earlier-differ (j + 1) n name boxes number (omega (arith, le)) are.1 numbers.1,
)

among : (folder : List ℕ) (front : List Box) (b : Box) (rest : List Box) → AllByRecursion IsBox front → IsBox b → AllByRecursion IsBox rest
    → Differs b.archive.name front → Differs b.archive.name rest → IsStored folder (boxes_made folder (front ++ b ∷ rest)) b
among folder front b rest before is after differ differs =
    let name = b.archive.name in
    let at = path_of folder name in
    let parts : boxes_made folder (front ++ b ∷ rest) ≡ boxes_made folder front ++ (box_made folder b ++ boxes_made folder rest) =
    flat_map-append (box_made folder) front (b ∷ rest) in
    let here = own folder b is in
    record {
      names = ap (names_made at) parts ∙ names-append at (boxes_made folder front) (box_made folder b ++ boxes_made folder rest)
          ∙ ap (λ (l : List (List ℕ)). l ++ names_made at (box_made folder b ++ boxes_made folder rest)) (no-names folder name front is.plain before differ)
          ∙ names-append at (box_made folder b) (boxes_made folder rest)
          ∙ ap (λ (l : List (List ℕ)). names_made at (box_made folder b) ++ l) (no-names folder name rest is.plain after differs)
          ∙ append-nil (names_made at (box_made folder b)) ∙ here.names;
      files = λ file.
          let path = file_path folder name file in
          ap (file_made path) parts ∙ files-append path (boxes_made folder front) (box_made folder b ++ boxes_made folder rest)
          ∙ ap (option_or (file_made path (box_made folder b ++ boxes_made folder rest))) (no-files folder name file front is.plain before differ)
          ∙ or-none (file_made path (box_made folder b ++ boxes_made folder rest))
          ∙ files-append path (box_made folder b) (boxes_made folder rest)
          ∙ ap (λ (o : Option File). option_or o (file_made path (box_made folder b))) (no-files folder name file rest is.plain after differs)
          ∙ here.files file;
      made =
          let test = makes_folder at in
          ap (list_any test) parts ∙ list_any-append test (boxes_made folder front) (box_made folder b ++ boxes_made folder rest)
          ∙ ap (λ (t : Bool). list_any test (boxes_made folder front) || t)
          (list_any-append test (box_made folder b) (boxes_made folder rest) ∙ ap (λ (t : Bool). t || list_any test (boxes_made folder rest)) here.made)
          ∙ or-true (list_any test (boxes_made folder front));
    }

push : (xs : List Box) (b : Box) → AllByRecursion IsBox xs → IsBox b → AllByRecursion IsBox (xs ++ b ∷ [])
push [] b are is = (is, tt)
push (x ∷ xs) b are is = (are.0, push xs b are.1 is)

number-after : (j : ℕ) (front : List Box) (b : Box) (rest : List Box) → Numbers j (archives_in (front ++ b ∷ rest))
    → (b.archive.number ≡ j + length front) × Numbers j (archives_in front) × Numbers (j + length front + 1) (archives_in rest)
number-after j [] b rest numbers =
    let here : j + 0 ≡ j = omega arith in
    (omega (arith, numbers.0), tt, subst (λ (n : ℕ). Numbers (n + 1) (archives_in rest)) (sym here) numbers.1)
number-after j (x ∷ front) b rest numbers =
    let more = number-after (j + 1) front b rest numbers.1 in
    let here : j + 1 + length front + 1 ≡ j + suc (length front) + 1 = omega arith in
    (omega (arith, more.0), (numbers.0, more.1), subst (λ (n : ℕ). Numbers n (archives_in rest)) here more.2)

pub all-stored : (folder : List ℕ) (front rest : List Box) → AllByRecursion IsBox front → AllByRecursion IsBox rest
    → Numbers 0 (archives_in (front ++ rest)) → AllByRecursion (IsStored folder (boxes_made folder (front ++ rest))) rest
all-stored folder front [] before are numbers = tt
all-stored folder front (b ∷ rest) before are numbers =
    let n = number-after 0 front b rest numbers in
    let more : (front ++ b ∷ []) ++ rest ≡ front ++ b ∷ rest = append_assoc front (b ∷ []) rest in
    let number : b.archive.number ≡ length front = omega (arith, n.0) in (
      among folder front b rest before are.0 are.1
          (earlier-differ 0 b.archive.number b.archive.name front are.0.number (omega (arith, number)) before n.1)
          (later-differ (0 + length front + 1) b.archive.number b.archive.name rest are.0.number (omega (arith, number)) are.1 n.2),
      subst (λ (l : List Box). AllByRecursion (IsStored folder (boxes_made folder l)) rest) more
          (all-stored folder (front ++ b ∷ []) rest (push front b before are.0) are.1 (subst (λ (l : List Box). Numbers 0 (archives_in l)) (sym more) numbers)),
    )
