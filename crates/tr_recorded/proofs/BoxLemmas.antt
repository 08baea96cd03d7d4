-- What is where archives were made, each of them a folder with its files.
use Rattle.std.proofs.Common.{◌≡◌, ◌∙◌, ◌+◌, ℕ, refl, sym, ap, subst, List, [], ◌∷◌, ◌++◌, map, Option, Some, append_assoc, append-nil}
use Rattle.std.proofs.lemmas.Grind.{fold-append}
use Rattle.std.proofs.lemmas.List.Elements.{filter_map-append}
use Rattle.std.specs.BTreeSet.{insert_key}
use Rattle.std.specs.List.{AllByRecursion, cons_option, filter_map, flat_map}
use Rattle.std.specs.Prelude.{codes}
use Rattle.tr_export.specs.Making.{Makings}
use Rattle.tr_export.specs.declared.made.Made.{Made}
use Rattle.tr_export.specs.declared.made.Made.TheVariants as made
use Rattle.tr_folders.specs.Tree.{Tree}
use Rattle.tr_recorded.proofs.BelowLemmas.{HasNoSlash, below-is, further-below}
use Rattle.tr_recorded.proofs.OrderLemmas.{Numbers, as-often}
use Rattle.tr_recorded.proofs.PathLemmas.{below}
use Rattle.tr_recorded.specs.Made.{name_below, names_made, path_made}
use Rattle.tr_survey.specs.Listing.{archive_at, with_keys}
use Rattle.tr_survey.specs.Names.{archive_number}
use Rattle.tr_survey.specs.Order.{Numbered, number_cmp}
use Rattle.tr_survey.specs.Paths.{archives_folder, file_path, path_of}

-- a file's name and its text
abbrev pub Leaf : Type 0
Leaf = List ℕ × List ℕ

-- an archive and its files
pub record Box : Type 0 where
  pub archive : Numbered
  pub leaves : List Leaf

pub record IsBox (b : Box) : Type 0 where
  pub number : archive_number b.archive.name ≡ Some b.archive.number
  pub plain : HasNoSlash b.archive.name
  pub leaves : AllByRecursion (λ (l : Leaf). HasNoSlash l.0) b.leaves

abbrev pub leaf_made : List ℕ → List ℕ → Leaf → Made (List ℕ) (List ℕ)
leaf_made folder name l = made.File (file_path folder name l.0) l.1

abbrev pub box_made : List ℕ → Box → Makings
box_made folder b = made.Folder (path_of folder b.archive.name) ∷ map (leaf_made folder b.archive.name) b.leaves

abbrev pub boxes_made : List ℕ → List Box → Makings
boxes_made folder = flat_map (box_made folder)

abbrev pub archives_in : List Box → List Numbered
archives_in = map (λ (b : Box). b.archive)

-- ---- through one name

abbrev Leads : List ℕ → List ℕ → Makings → Type 0
Leads folder name = AllByRecursion (λ (m : Made (List ℕ) (List ℕ)). name_below folder (path_made m) ≡ Some name)

both : {X : Type 0} (P : X → Type 0) (xs ys : List X) → AllByRecursion P xs → AllByRecursion P ys → AllByRecursion P (xs ++ ys)
both P [] ys a b = b
both P (x ∷ xs) ys a b = (a.0, both P xs ys a.1 b)

one-name : (folder name : List ℕ) (ms : Makings) → Leads folder name ms
    → names_made folder ms ≡ map (λ (m : Made (List ℕ) (List ℕ)). name) ms
one-name folder name [] leads = refl
one-name folder name (m ∷ ms) leads =
    ap (λ (o : Option (List ℕ)). cons_option o (names_made folder ms)) leads.0
    ∙ ap (λ (l : List (List ℕ)). name ∷ l) (one-name folder name ms leads.1)

leaves-lead : (folder name : List ℕ) (ls : List Leaf) → HasNoSlash name → Leads folder name (map (leaf_made folder name) ls)
leaves-lead folder name [] plain = tt
leaves-lead folder name (l ∷ ls) plain = (further-below folder name l.0 plain, leaves-lead folder name ls plain)

box-leads : (folder : List ℕ) (b : Box) → IsBox b → Leads folder b.archive.name (box_made folder b)
box-leads folder b is = (below-is folder b.archive.name is.plain, leaves-lead folder b.archive.name b.leaves is.plain)

-- below the folder of all sessions
session-leads : (dir session rest : List ℕ) → HasNoSlash session → name_below dir (archives_folder dir session ++ (47 ∷ rest)) ≡ Some session
session-leads dir session rest plain =
    ap (name_below dir) (below dir session (47 ∷ rest)) ∙ further-below dir session (codes "archives" ++ (47 ∷ rest)) plain

leaves-in : (dir session name : List ℕ) (ls : List Leaf) → HasNoSlash session
    → Leads dir session (map (leaf_made (archives_folder dir session) name) ls)
leaves-in dir session name [] plain = tt
leaves-in dir session name (l ∷ ls) plain =
    (session-leads dir session (name ++ (47 ∷ l.0)) plain, leaves-in dir session name ls plain)

pub boxes-in : (dir session : List ℕ) (boxes : List Box) → HasNoSlash session → Leads dir session (boxes_made (archives_folder dir session) boxes)
boxes-in dir session [] plain = tt
boxes-in dir session (b ∷ boxes) plain =
    both (λ (m : Made (List ℕ) (List ℕ)). name_below dir (path_made m) ≡ Some session)
    (box_made (archives_folder dir session) b) (boxes_made (archives_folder dir session) boxes)
    (session-leads dir session b.archive.name plain, leaves-in dir session b.archive.name b.leaves plain)
    (boxes-in dir session boxes plain)

pub session-names : (dir session : List ℕ) (boxes : List Box) → HasNoSlash session
    → names_made dir (boxes_made (archives_folder dir session) boxes)
    ≡ map (λ (m : Made (List ℕ) (List ℕ)). session) (boxes_made (archives_folder dir session) boxes)
session-names dir session boxes plain =
    one-name dir session (boxes_made (archives_folder dir session) boxes) (boxes-in dir session boxes plain)

-- ---- archives

pub names-append : (folder : List ℕ) (xs ys : Makings) → names_made folder (xs ++ ys) ≡ names_made folder xs ++ names_made folder ys
names-append folder xs ys = filter_map-append (λ (m : Made (List ℕ) (List ℕ)). name_below folder (path_made m)) xs ys

all-so : {X Y M : Type 0} (h : X → Option Y) (x : X) (y : Y) (ms : List M) → h x ≡ Some y
    → filter_map h (map (λ (m : M). x) ms) ≡ map (λ (m : M). y) ms
all-so h x y [] is = refl
all-so {Y = Y} h x y (m ∷ ms) is =
    ap (λ (o : Option Y). cons_option o (filter_map h (map (λ m. x) ms))) is ∙ ap (λ (l : List Y). y ∷ l) (all-so h x y ms is)

with-more : (xs ys zs : List Numbered) → with_keys xs (ys ++ zs) ≡ with_keys (with_keys xs ys) zs
with-more xs ys zs = fold-append (insert_key number_cmp) xs ys zs

found-append : (t : Tree) (folder : List ℕ) (a b : List (List ℕ))
    → filter_map (archive_at t folder) (a ++ b) ≡ filter_map (archive_at t folder) a ++ filter_map (archive_at t folder) b
found-append t folder a b = filter_map-append (archive_at t folder) a b

first-of : (j : ℕ) (xs : List Numbered) (k : Numbered) (ks : List Numbered) → Numbers j (xs ++ k ∷ ks) → Numbers j (xs ++ k ∷ [])
first-of j [] k ks are = (are.0, tt)
first-of j (x ∷ xs) k ks are = (are.0, first-of (j + 1) xs k ks are.1)

abbrev pub AreFound : Tree → List ℕ → List Box → Type 0
AreFound t folder = AllByRecursion (λ (b : Box). archive_at t folder b.archive.name ≡ Some b.archive)

pub archives-found : (t : Tree) (folder : List ℕ) (xs : List Numbered) (boxes : List Box) → AllByRecursion IsBox boxes → AreFound t folder boxes
    → Numbers 0 (xs ++ archives_in boxes)
    → with_keys xs (filter_map (archive_at t folder) (names_made folder (boxes_made folder boxes))) ≡ xs ++ archives_in boxes
archives-found t folder xs [] are found numbers = sym (append-nil xs)
archives-found t folder xs (b ∷ boxes) are found numbers =
    let own = box_made folder b in
    let more = boxes_made folder boxes in
    let rest = filter_map (archive_at t folder) (names_made folder more) in
    let here : filter_map (archive_at t folder) (names_made folder own) ≡ map (λ (m : Made (List ℕ) (List ℕ)). b.archive) own =
    ap (filter_map (archive_at t folder)) (one-name folder b.archive.name own (box-leads folder b are.0))
    ∙ all-so (archive_at t folder) b.archive.name b.archive own found.0 in
    ap (λ (l : List (List ℕ)). with_keys xs (filter_map (archive_at t folder) l)) (names-append folder own more)
    ∙ ap (with_keys xs) (found-append t folder (names_made folder own) (names_made folder more))
    ∙ with-more xs (filter_map (archive_at t folder) (names_made folder own)) rest
    ∙ ap (λ (l : List Numbered). with_keys (with_keys xs l) rest) here
    ∙ ap (λ (l : List Numbered). with_keys l rest)
    (as-often xs b.archive (made.Folder (path_of folder b.archive.name)) (map (leaf_made folder b.archive.name) b.leaves)
    (first-of 0 xs b.archive (archives_in boxes) numbers))
    ∙ archives-found t folder (xs ++ b.archive ∷ []) boxes are.1 found.1
    (subst (Numbers 0) (sym (append_assoc xs (b.archive ∷ []) (archives_in boxes))) numbers)
    ∙ append_assoc xs (b.archive ∷ []) (archives_in boxes)
