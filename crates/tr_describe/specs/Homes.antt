-- Which archives have metadata of the recorder's, where these are, and what they become.
use Rattle.std.specs.Prelude.{ℕ, List, codes, Option, Some, None, option_map, string_bytes}
use Rattle.std.specs.List.{filter_map, flat_map}
use Rattle.tr_describe.specs.Put.{Text, text_at}
use Rattle.tr_describe.specs.declared.archives.Metadata as value
use Rattle.tr_events.specs.Events.{Declarations}
use Rattle.tr_metadata.specs.Metadata.{metadata_with}
use Rattle.tr_folders.specs.Tree.{Tree}
use Rattle.tr_survey.specs.Listing.{archives_of, names_at}
use Rattle.tr_survey.specs.Order.{Numbered}
use Rattle.tr_survey.specs.Paths.{archives_folder, file_path}
use Rattle.tr_survey.specs.Sessions.{naming_of, sessions_of}
use Rattle.tr_survey.specs.declared.naming.Naming.{Naming}
use Rattle.tr_survey.specs.declared.naming.Naming.TheVariants.{Unfinished, Unreadable, NoUuid, Other, Named}

-- an archive's metadata: the path of the file, and the trace's identifier
pub record Metadata : Type 0 where
  pub path : List ℕ
  pub uuid : List ℕ

abbrev pub metadata_at : List ℕ → List ℕ → Metadata
metadata_at path uuid = record { path = path; uuid = uuid }

-- as contracts see them
abbrev pub seen : value.Metadata → Metadata
seen m = metadata_at (string_bytes m.path) m.uuid

-- the identifier, if metadata are the recorder's
abbrev pub own_uuid : Naming → Option (List ℕ)
own_uuid Unfinished = None
own_uuid Unreadable = None
own_uuid NoUuid = None
own_uuid (Other uuid) = None
own_uuid (Named uuid) = Some uuid

-- the metadata of an archive in a folder, if they are the recorder's
abbrev pub metadata_in : Tree → List ℕ → Numbered → Option Metadata
metadata_in t folder archive = option_map (metadata_at (file_path folder archive.name (codes "metadata"))) (own_uuid (naming_of t folder archive))

-- the archives in a folder, in order
abbrev pub archives_in : Tree → List ℕ → List Numbered
archives_in t folder = archives_of t folder (names_at t folder)

-- the metadata of a session's archives, in order
abbrev pub metadata_of_session : Tree → List ℕ → List ℕ → List Metadata
metadata_of_session t dir session =
    filter_map (metadata_in t (archives_folder dir session)) (archives_in t (archives_folder dir session))

-- those of all sessions below a folder, in order
abbrev pub metadata_of_all : Tree → List ℕ → List Metadata
metadata_of_all t dir = flat_map (metadata_of_session t dir) (sessions_of t dir)

-- what such a file has once the archive is described by these events
abbrev pub text_of : Declarations → Metadata → Text
text_of events m = text_at m.path (metadata_with events m.uuid)
