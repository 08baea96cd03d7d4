-- The survey of sessions.
use Rattle.std.specs.Prelude.{ℕ, Bool, ◌&&◌, List, [], ◌∷◌, ◌++◌, codes, map, filter, Option, Some, None, if◌then◌else◌}
use Rattle.tr_folders.specs.Tree.{Tree}
use Rattle.tr_survey.specs.Declaring.{trace_of}
use Rattle.tr_survey.specs.Heads.{head_told}
use Rattle.tr_survey.specs.Identifiers.{identity_by, judged_by, uuid_of_packets}
use Rattle.tr_survey.specs.Lines.{closed_text, end_text, passed_text, session_text}
use Rattle.tr_survey.specs.Listing.{archives_of, is_folder, names_at, names_in_order, streams_of}
use Rattle.tr_survey.specs.Metadata.{most_named, naming_in}
use Rattle.tr_survey.specs.Order.{Numbered}
use Rattle.tr_survey.specs.Paths.{archives_folder, file_path, path_of}
use Rattle.tr_survey.specs.Prefix.{IsPrefixOut, IsTold}
use Rattle.tr_survey.specs.Streams.{TraceState, streams_told}
use Rattle.tr_survey.specs.Sums.{lines_asked, sums_of}
use Rattle.tr_survey.specs.Told.{Told, and_faults, and_then, told}
use Rattle.tr_survey.specs.declared.faults.Surveyed.{Surveyed}
use Rattle.tr_survey.specs.declared.faults.Surveyed.TheVariants.{Unlisted, NoSession, Faults}
use Rattle.tr_survey.specs.declared.identifiers.Identity.{Identity}
use Rattle.tr_survey.specs.declared.naming.Naming.{Naming}
use Rattle.tr_survey.specs.declared.naming.Naming.TheVariants.{Unreadable}
use Rattle.tr_terms.specs.Names.{is_name}

-- ---- a session

-- what the metadata of an archive name
abbrev pub naming_of : Tree → List ℕ → Numbered → Naming
naming_of t folder archive =
    if t.is_hidden (path_of folder archive.name) then Unreadable else naming_in (t.file (file_path folder archive.name (codes "metadata")))

abbrev pub namings_of : Tree → List ℕ → List Numbered → List Naming
namings_of t folder = map (naming_of t folder)

-- what is reported of streams, and then of archives, if that is asked for
abbrev pub streams_and_sums_told : Bool → Tree → List ℕ → TraceState → List Numbered → List Numbered → ℕ → Told ℕ
streams_and_sums_told asked t folder from archives streams n =
    and_then (streams_told t folder from archives n streams).text
    (told (lines_asked asked archives (sums_of t folder from archives n streams)) (streams_told t folder from archives n streams).state)

-- what is reported of a session of this identifier with these archives and streams in a folder, whose metadata name these
abbrev pub named_told : Bool → Tree → List ℕ → List ℕ → Identity → List Numbered → List Naming → List Numbered → ℕ → Told ℕ
named_told asked t session folder identity archives namings streams n =
    and_then (head_told session identity archives namings streams n).text
    (streams_and_sums_told asked t folder (trace_of t folder (judged_by identity) archives namings) archives streams
    (head_told session identity archives namings streams n).state)

-- the identifier of a session with these archives and streams in a folder, whose metadata name these
abbrev pub identity_of : Tree → List ℕ → List Numbered → List Naming → List Numbered → Identity
identity_of t folder archives namings streams = identity_by (most_named namings) (uuid_of_packets t folder archives streams)

abbrev pub listed_told : Bool → Tree → List ℕ → List ℕ → List Numbered → List Naming → List Numbered → ℕ → Told ℕ
listed_told asked t session folder archives namings streams n =
    named_told asked t session folder (identity_of t folder archives namings streams) archives namings streams n

abbrev pub archives_told : Bool → Tree → List ℕ → List ℕ → List Numbered → ℕ → Told ℕ
archives_told asked t session folder archives n =
    listed_told asked t session folder archives (namings_of t folder archives) (streams_of t folder archives) n

-- the same where the folder can't be read
abbrev pub closed_told : List ℕ → ℕ → Told ℕ
closed_told session n = told (session_text session None 0 ++ closed_text) (and_faults n (closed_text ∷ []))

-- what is reported of a session, after this number of faults
abbrev pub session_told : Bool → Tree → List ℕ → ℕ → List ℕ → Told ℕ
session_told asked t folder n session =
    if t.is_hidden folder then closed_told session n
    else archives_told asked t session folder (archives_of t folder (names_at t folder)) n

-- ---- all sessions

-- there is a folder of archives below the folder of this name
abbrev pub has_archives : Tree → List ℕ → List ℕ → Bool
has_archives t dir name = is_folder t (archives_folder dir name)

abbrev pub is_session : Tree → List ℕ → List ℕ → Bool
is_session t dir name = is_name name && has_archives t dir name

-- the sessions below a folder: those whose name is one and that have a folder of archives
abbrev pub sessions_of : Tree → List ℕ → List (List ℕ)
sessions_of t dir = filter (is_session t dir) (names_in_order (names_at t dir))

-- the faults so far, none before the first session
abbrev pub faults_of : Option ℕ → ℕ
faults_of None = 0
faults_of (Some n) = n

abbrev pub counted : Told ℕ → Told (Option ℕ)
counted t = told t.text (Some t.state)

-- what is reported of a name that a session can have, after others; nothing if it is no session
abbrev pub able_told : Bool → Tree → List ℕ → Option ℕ → List ℕ → Told (Option ℕ)
able_told asked t dir n name =
    if has_archives t dir name then counted (session_told asked t (archives_folder dir name) (faults_of n) name) else told [] n

-- what is reported of another name: that it is passed over, if it has a folder of archives
abbrev pub passed_told : Tree → List ℕ → List ℕ → List ℕ
passed_told t dir name = if has_archives t dir name then passed_text name else []

-- what is reported of a name after others
abbrev pub name_told : Bool → Tree → List ℕ → Option ℕ → List ℕ → Told (Option ℕ)
name_told asked t dir n name = if is_name name then able_told asked t dir n name else told (passed_told t dir name) n

abbrev pub names_told : Bool → Tree → List ℕ → Option ℕ → List (List ℕ) → Told (Option ℕ)
names_told asked t dir n [] = told [] n
names_told asked t dir n (name ∷ names) =
    and_then (name_told asked t dir n name).text (names_told asked t dir (name_told asked t dir n name).state names)

-- how a survey ends: nothing was a session, or so many faults were reported
abbrev pub surveyed_of : Option ℕ → Surveyed
surveyed_of None = NoSession
surveyed_of (Some n) = Faults n

abbrev pub end_of : Option ℕ → List ℕ
end_of None = []
end_of (Some n) = end_text n

abbrev pub ended_told : Told (Option ℕ) → Told Surveyed
ended_told t = told (t.text ++ end_of t.state) (surveyed_of t.state)

-- the survey of a folder, with a line for each archive if that is asked for: its text, and what it says
abbrev pub survey_of : Bool → Tree → List ℕ → Told Surveyed
survey_of asked t dir =
    if t.is_hidden dir then told [] Unlisted else ended_told (names_told asked t dir None (names_in_order (names_at t dir)))

-- all of a folder was reported: its text went out, and this is said
abbrev pub TellsFolder : Bool → Tree → List ℕ → Surveyed → Option (List ℕ) → Option (List ℕ) → Type 0
TellsFolder asked t dir said before now = IsTold (survey_of asked t dir) before now said

-- a front of it went out
abbrev pub HasToldPrefix : Bool → Tree → List ℕ → Option (List ℕ) → Option (List ℕ) → Type 0
HasToldPrefix asked t dir before now = IsPrefixOut (survey_of asked t dir).text before now
