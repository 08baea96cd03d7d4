-- What a survey finds in folders that show archives.
use Rattle.std.proofs.Common.{◌≡◌, ◌∙◌, ◌+◌, ℕ, Bool, true, false, true≢false, cond, ◌||◌, refl, ap, subst, append_assoc, List, [], ◌∷◌, ◌++◌, map, Option, Some, None}
use Rattle.std.specs.BTreeSet.{insert_key}
use Rattle.std.specs.Cmp.Lexicographic.{pointwise}
use Rattle.std.specs.List.{AllByRecursion, filter_map, flat_map, fold, list_any}
use Rattle.std.specs.Option.{option_and_then, unwrap_or}
use Rattle.std.specs.Ordering.{eq_by_cmp, match_ordering}
use Rattle.std.specs.Prelude.{codes, is_some, nat_eq}
use Rattle.std.specs.declared.cmp.Ordering.{Ordering}
use Rattle.tr_export.specs.Making.{Makings}
use Rattle.tr_export.specs.declared.made.Made.TheVariants as made
use Rattle.tr_folders.specs.Kept.{file_of}
use Rattle.tr_folders.specs.Tree.{Tree}
use Rattle.tr_recorded.proofs.BelowLemmas.{HasNoSlash, below-is}
use Rattle.tr_recorded.proofs.BoxLemmas.{AreFound, Box, IsBox, Leaf, archives-found, archives_in, boxes_made, leaf_made, session-names}
use Rattle.tr_recorded.proofs.ListedLemmas.{AreSame, any-of-each, archives-same, filtered-same, names-same}
use Rattle.tr_recorded.proofs.OrderLemmas.{Numbers, in-order, same-text}
use Rattle.tr_recorded.proofs.PlainLemmas.{archive-is-named}
use Rattle.tr_recorded.proofs.SetLemmas.{number-same, number-total, same-keys}
use Rattle.tr_recorded.proofs.StoredLemmas.{IsStored, all-stored, leaf_file}
use Rattle.tr_recorded.specs.Made.{ArePlain, Shows, file_made, is_folder_made, is_listed, is_plain_name, makes_folder, names_made, path_by}
use Rattle.tr_survey.specs.Listing.{archives_of, is_folder, names_at, names_in_order, streams_at, streams_of}
use Rattle.tr_survey.specs.Metadata.{naming_in}
use Rattle.tr_survey.specs.Names.{of_parts, stream_named}
use Rattle.tr_survey.specs.Order.{Numbered, name_cmp, number_cmp}
use Rattle.tr_survey.specs.Paths.{archives_folder, file_path, path_of}
use Rattle.tr_survey.specs.Sessions.{namings_of}
use Rattle.tr_survey.specs.Whole.{FollowEachOther, HasItsFiles, NumberedFrom, StandsAlone, StreamFiles, streams_in}
use Rattle.tr_survey.specs.declared.naming.Naming.TheVariants.{Named}
use Rattle.tr_survey.specs.Declaring.{events_in}
use Rattle.tr_survey.specs.Streams.{trace_state}
use Rattle.tr_terms.specs.Names.{is_name}

or-true : (b : Bool) → (b || true) ≡ true
or-true true = refl
or-true false = refl

-- the files' names are those of these streams' files, and of files of no stream
abbrev pub HaveStreams : List Numbered → List Box → Type 0
HaveStreams streams = AllByRecursion (λ (b : Box). filter_map stream_named (map (λ (l : Leaf). l.0) b.leaves) ≡ streams)

-- they have this text for their metadata
abbrev pub HaveMetadata : List ℕ → List Box → Type 0
HaveMetadata text = AllByRecursion (λ (b : Box). leaf_file (codes "metadata") b.leaves ≡ Some (file_of text false))

not-so : {X : Type 0} (b : Bool) (x y : X) → b ≡ false → cond b x y ≡ y
not-so true x y e = absurd (true≢false e)
not-so false x y e = refl

both-same : {X : Type 0} (x y : X) (xs ys : List X) → x ≡ y → xs ≡ ys → x ∷ xs ≡ y ∷ ys
both-same {X = X} x y xs ys one more = ap (λ (z : X). z ∷ xs) one ∙ ap (λ (l : List X). y ∷ l) more

numbers-of : (k : ℕ) (streams : List Numbered) → NumberedFrom k streams → Numbers k streams
numbers-of k [] are = tt
numbers-of k (s ∷ streams) are = (are.1, numbers-of (k + 1) streams are.2)

same-session : {M : Type 0} (session : List ℕ) (ms : List M) → fold (insert_key name_cmp) (session ∷ []) (map (λ (x : M). session) ms) ≡ session ∷ []
same-session session [] = refl
same-session {M = M} session (m ∷ ms) =
    ap (λ (o : Ordering). fold (insert_key name_cmp) (match_ordering o (session ∷ session ∷ []) (session ∷ []) (session ∷ session ∷ [])) (map (λ (x : M). session) ms))
    (same-text session)
    ∙ same-session session ms

one-session : {M : Type 0} (session : List ℕ) (m : M) (ms : List M) → names_in_order (map (λ (x : M). session) (m ∷ ms)) ≡ session ∷ []
one-session session m ms = same-session session ms

-- a path from this folder on
abbrev pub Reached : List ℕ → List ℕ → Type 0
Reached dir path = (through : List (List ℕ)) × ArePlain through × (path_by dir through ≡ path)

module _ (t : Tree) (dir session : List ℕ) (first : Box) (others : List Box) (shows : Shows t dir (boxes_made (archives_folder dir session) (first ∷ others)))
    (plain : HasNoSlash session) (session-plain : is_plain_name session ≡ true) (are : AllByRecursion IsBox (first ∷ others)) (numbers : Numbers 0 (archives_in (first ∷ others))) where
  abbrev folder : List ℕ
  folder = archives_folder dir session

  abbrev ms : Makings
  ms = boxes_made folder (first ∷ others)

  seen : (path : List ℕ) → Reached dir path → t.is_hidden path ≡ false
  seen path way = subst (λ (p : List ℕ). t.is_hidden p ≡ false) way.2 (shows.seen way.0 way.1)

  file-there : (path : List ℕ) → Reached dir path → t.file path ≡ file_made path ms
  file-there path way = subst (λ (p : List ℕ). t.file p ≡ file_made p ms) way.2 (shows.files way.0 way.1)

  to-folder : Reached dir folder
  to-folder = (session ∷ codes "archives" ∷ [], (session-plain, (refl, tt)), append_assoc dir (47 ∷ session) (codes "/archives"))

  to-archive : (b : Box) → IsBox b → Reached dir (path_of folder b.archive.name)
  to-archive b is = (
    session ∷ codes "archives" ∷ b.archive.name ∷ [],
    (session-plain, (refl, (archive-is-named b.archive.name b.archive.number is.number, tt))),
    ap (λ (p : List ℕ). path_of p b.archive.name) (append_assoc dir (47 ∷ session) (codes "/archives")),
  )

  to-file : (b : Box) (name : List ℕ) → IsBox b → is_plain_name name ≡ true → Reached dir (file_path folder b.archive.name name)
  to-file b name is plain-name = (
    session ∷ codes "archives" ∷ b.archive.name ∷ name ∷ [],
    (session-plain, (refl, (archive-is-named b.archive.name b.archive.number is.number, (plain-name, tt)))),
    ap (λ (p : List ℕ). path_of (path_of p b.archive.name) name) (append_assoc dir (47 ∷ session) (codes "/archives"))
        ∙ append_assoc folder (47 ∷ b.archive.name) (47 ∷ name),
  )

  listed : (path : List ℕ) → Reached dir path → AreSame (names_at t path) (names_made path ms)
  listed path way name =
      ap (λ (b : Bool). is_listed name (cond b [] (unwrap_or (t.names path) []))) (seen path way)
      ∙ subst (λ (p : List ℕ). is_listed name (unwrap_or (t.names p) []) ≡ is_listed name (names_made p ms)) way.2 (shows.names way.0 way.1 name)

  stored : AllByRecursion (IsStored folder ms) (first ∷ others)
  stored = all-stored folder [] (first ∷ others) tt are numbers

  names-there : (path : List ℕ) → Reached dir path → list_any (makes_folder path) ms ≡ true → is_some (t.names path) ≡ true
  names-there path way is-made =
      subst (λ (p : List ℕ). is_some (t.names p) ≡ is_folder_made dir ms p) way.2 (shows.folders way.0 way.1)
      ∙ ap (λ (b : Bool). pointwise nat_eq path dir || b) is-made ∙ or-true (pointwise nat_eq path dir)

  folder-there : (path : List ℕ) → Reached dir path → list_any (makes_folder path) ms ≡ true → is_folder t path ≡ true
  folder-there path way is-made = ap (λ (b : Bool). b || is_some (t.names path)) (seen path way) ∙ names-there path way is-made

  -- ---- archives

  found : (bs : List Box) → AllByRecursion IsBox bs → AllByRecursion (IsStored folder ms) bs → AreFound t folder bs
  found [] is has = tt
  found (b ∷ bs) is has = (
    ap (option_and_then (λ (n : ℕ). cond (is_folder t (path_of folder b.archive.name)) (Some (of_parts b.archive.name n)) None)) is.0.number
        ∙ ap (λ (test : Bool). cond test (Some b.archive) None) (folder-there (path_of folder b.archive.name) (to-archive b is.0) has.0.made),
    found bs is.1 has.1,
  )

  archives-are : archives_of t folder (names_at t folder) ≡ archives_in (first ∷ others)
  archives-are =
      archives-same t folder (names_at t folder) (names_made folder ms) (listed folder to-folder)
      ∙ archives-found t folder [] (first ∷ others) are (found (first ∷ others) are stored) numbers

  there : is_some (t.names folder) ≡ true
  there =
      let path = path_of folder first.archive.name in
      let rest = list_any (makes_folder folder) (map (leaf_made folder first.archive.name) first.leaves ++ boxes_made folder others) in
      names-there folder to-folder
      (ap (λ (o : Option (List ℕ)). (is_some o || pointwise nat_eq folder path) || rest) (below-is folder first.archive.name are.0.plain))

  alone : names_in_order (names_at t dir) ≡ session ∷ []
  alone =
      names-same (names_at t dir) (names_made dir ms) (listed dir ([], tt, refl)) ∙ ap names_in_order (session-names dir session (first ∷ others) plain)
      ∙ one-session session (made.Folder (path_of folder first.archive.name)) (map (leaf_made folder first.archive.name) first.leaves ++ boxes_made folder others)

  -- ---- streams

  each-has : (p : Numbered → Bool) (streams : List Numbered) (bs : List Box) → AllByRecursion IsBox bs → AllByRecursion (IsStored folder ms) bs → HaveStreams streams bs
      → AllByRecursion (λ (a : Numbered). list_any p (streams_at t folder a) ≡ list_any p streams) (archives_in bs)
  each-has p streams [] is has have = tt
  each-has p streams (b ∷ bs) is has have =
      let path = path_of folder b.archive.name in (
        filtered-same p stream_named (names_at t path) (names_made path ms) (listed path (to-archive b is.0))
            ∙ ap (λ (l : List (List ℕ)). list_any p (filter_map stream_named l)) has.0.names ∙ ap (list_any p) have.0,
        each-has p streams bs is.1 has.1 have.1,
      )

  streams-are : (streams : List Numbered) → Numbers 0 streams → HaveStreams streams (first ∷ others)
      → streams_of t folder (archives_in (first ∷ others)) ≡ streams
  streams-are streams are-numbered have =
      same-keys number-total number-same (flat_map (streams_at t folder) (archives_in (first ∷ others))) streams
      (λ q. any-of-each (eq_by_cmp number_cmp q) (streams_at t folder) streams first.archive (archives_in others)
      (each-has (eq_by_cmp number_cmp q) streams (first ∷ others) are stored have))
      ∙ in-order [] streams are-numbered

  -- ---- files

  namings-are : (text : List ℕ) (bs : List Box) → AllByRecursion IsBox bs → AllByRecursion (IsStored folder ms) bs → HaveMetadata text bs
      → namings_of t folder (archives_in bs) ≡ map (λ (a : Numbered). naming_in (Some (file_of text false))) (archives_in bs)
  namings-are text [] is has have = refl
  namings-are text (b ∷ bs) is has have =
      both-same _ _ _ _
      (not-so _ _ _ (seen (path_of folder b.archive.name) (to-archive b is.0))
      ∙ ap naming_in (file-there (file_path folder b.archive.name (codes "metadata")) (to-file b (codes "metadata") is.0 refl)
      ∙ has.0.files (codes "metadata") ∙ have.0))
      (namings-are text bs is.1 has.1 have.1)

  files-of : (bs : List Box) → AllByRecursion IsBox bs → AllByRecursion (IsStored folder ms) bs
      → AllByRecursion (λ (b : Box). (name : List ℕ) → is_plain_name name ≡ true → t.file (file_path folder b.archive.name name) ≡ leaf_file name b.leaves) bs
  files-of [] is has = tt
  files-of (b ∷ bs) is has = (
    λ name plain-name. file-there (file_path folder b.archive.name name) (to-file b name is.0 plain-name) ∙ has.0.files name,
    files-of bs is.1 has.1,
  )

  pub files-are : AllByRecursion (λ (b : Box). (name : List ℕ) → is_plain_name name ≡ true → t.file (file_path folder b.archive.name name) ≡ leaf_file name b.leaves)
      (first ∷ others)
  files-are = files-of (first ∷ others) are stored

  -- ---- the session

  pub stands-alone : (uuid text : List ℕ) (streams : List StreamFiles) → naming_in (Some (file_of text false)) ≡ Named uuid → is_name session ≡ true → FollowEachOther 0 (archives_in (first ∷ others))
      → HaveMetadata text (first ∷ others) → NumberedFrom 0 (streams_in streams) → HaveStreams (streams_in streams) (first ∷ others)
      → AllByRecursion (HasItsFiles t folder uuid (archives_in (first ∷ others))) streams
      → StandsAlone t dir session (trace_state uuid (events_in (Some (file_of text false)))) (archives_in (first ∷ others)) streams
  stands-alone uuid text streams read name follow metadata numbered have files = record {
    seen = seen dir ([], tt, refl);
    alone = alone;
    named = name;
    stands = record {
      seen = seen folder to-folder;
      there = there;
      archives_are = archives-are;
      first = first.archive;
      others = archives_in others;
      some = refl;
      follow = follow;
      metadata = namings-are text (first ∷ others) are stored metadata
          ∙ ap (λ n. map (λ (a : Numbered). n) (archives_in (first ∷ others))) read;
      declared = ap events_in (file-there (file_path folder first.archive.name (codes "metadata")) (to-file first (codes "metadata") are.0 refl)
          ∙ stored.0.files (codes "metadata") ∙ metadata.0);
      streams_are = streams-are (streams_in streams) (numbers-of 0 (streams_in streams) numbered) have;
      numbered = numbered;
      files = files;
    };
  }
