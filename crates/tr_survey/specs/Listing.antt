-- Which archives and streams a session has.
use Rattle.std.specs.Prelude.{◌≡◌, ℕ, Bool, true, false, ◌||◌, List, [], Option, Some, None, is_some, string_bytes, if◌then◌else◌}
use Rattle.std.specs.BTreeSet.{insert_key}
use Rattle.std.specs.List.{filter_map, flat_map, fold}
use Rattle.std.specs.Option.{option_and_then, unwrap_or}
use Rattle.tr_folders.specs.Tree.{Tree, by_text}
use Rattle.tr_survey.specs.Names.{archive_number, of_parts, stream_named}
use Rattle.tr_survey.specs.Order.{Numbered, name_cmp, number_cmp}
use Rattle.tr_survey.specs.Paths.{path_of}
use Rattle.tr_survey.specs.declared.listing.Listing.{Listing}
use Rattle.tr_survey.specs.declared.listing.Listing.TheVariants.{Absent, Unreadable, Names}
use Rattle.tr_survey.specs.declared.names.Numbered as value

-- a number and a name as contracts see them
abbrev pub key_of : value.Numbered → Numbered
key_of n = of_parts (string_bytes n.name) n.number

-- these, and then more, each once and in order
abbrev pub with_keys : List Numbered → List Numbered → List Numbered
with_keys = fold (insert_key number_cmp)

-- names, each once and in order
abbrev pub names_in_order : List (List ℕ) → List (List ℕ)
names_in_order = fold (insert_key name_cmp) []

-- a folder is there, whether it can be read or not
abbrev pub is_folder : Tree → List ℕ → Bool
is_folder t path = t.is_hidden path || is_some (t.names path)

-- the names in the folder there, as far as it can be read
abbrev pub names_at : Tree → List ℕ → List (List ℕ)
names_at t path = if t.is_hidden path then [] else unwrap_or (t.names path) []

-- what is there by this listing
abbrev pub IsListing : Tree → List ℕ → Listing → Type 0
IsListing t path Absent = (t.is_hidden path ≡ false) × (t.names path ≡ None)
IsListing t path Unreadable = t.is_hidden path ≡ true
IsListing t path (Names names) = (t.is_hidden path ≡ false) × (t.names path ≡ Some (by_text names.items))

-- the archive of this name in a folder; none: there is no folder of this name, or it is no archive's name
abbrev pub archive_at : Tree → List ℕ → List ℕ → Option Numbered
archive_at t folder name =
    option_and_then (λ n. if is_folder t (path_of folder name) then Some (of_parts name n) else None) (archive_number name)

-- the archives among what has these names in a folder
abbrev pub archives_of : Tree → List ℕ → List (List ℕ) → List Numbered
archives_of t folder names = with_keys [] (filter_map (archive_at t folder) names)

-- the streams that have a file in this archive
abbrev pub streams_at : Tree → List ℕ → Numbered → List Numbered
streams_at t folder archive = filter_map stream_named (names_at t (path_of folder archive.name))

-- those that have one in any of them
abbrev pub streams_of : Tree → List ℕ → List Numbered → List Numbered
streams_of t folder archives = with_keys [] (flat_map (streams_at t folder) archives)
