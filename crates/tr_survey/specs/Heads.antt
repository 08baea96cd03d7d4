-- What is wrong with a session's archives as they are there, before their files are read.
use Rattle.std.specs.Prelude.{ℕ, ◌+◌, ◌-◌, Bool, nat_eq, nat_lt, List, [], ◌∷◌, ◌++◌, codes, length, Option, Some, None, if◌then◌else◌}
use Rattle.std.specs.Cmp.Lexicographic.{pointwise}
use Rattle.std.specs.List.{flat_map, zip}
use Rattle.tr_chunk.specs.Audit.{capped_count}
use Rattle.tr_survey.specs.Identifiers.{is_uuid, uuid_of}
use Rattle.tr_survey.specs.Lines.{archive_text, deleted_text, missing_text, no_streams_text, session_text, source_text}
use Rattle.tr_survey.specs.Names.{begin_stamp, end_stamp}
use Rattle.tr_survey.specs.Order.{Numbered}
use Rattle.tr_survey.specs.Told.{Told, and_then, faults_told}
use Rattle.tr_survey.specs.declared.identifiers.Identity.{Identity}
use Rattle.tr_survey.specs.declared.naming.Naming.{Naming}
use Rattle.tr_survey.specs.declared.naming.Naming.TheVariants.{Unfinished, Unreadable, NoUuid, Other, Named}

-- ---- the numbers and the moments of archives, in order

-- the numbers below the least one
abbrev pub deleted_of : List Numbered → List ℕ
deleted_of [] = []
deleted_of (a ∷ archives) = if nat_lt 0 a.number then deleted_text a.number else []

-- the next archive by number begins when this one ends
abbrev pub is_next : Numbered → Numbered → Bool
is_next a b = pointwise nat_eq (end_stamp a.name) (begin_stamp b.name)

-- what is wrong between an archive and the next one that is there, a distance of numbers above it
abbrev pub wrong_between : Numbered → Numbered → ℕ → List (List ℕ)
wrong_between a b distance =
    if nat_eq distance 0 then archive_text b.name (codes "number twice") ∷ []
    else if nat_eq distance 1 then (if is_next a b then [] else archive_text b.name (codes "begins elsewhere") ∷ [])
    else missing_text (a.number + 1) (distance - 1) ∷ []

abbrev pub wrong_after : Numbered → List Numbered → List (List ℕ)
wrong_after a [] = []
wrong_after a (b ∷ archives) = wrong_between a b (b.number - a.number) ++ wrong_after b archives

abbrev pub wrong_in_order : List Numbered → List (List ℕ)
wrong_in_order [] = []
wrong_in_order (a ∷ archives) = wrong_after a archives

-- ---- metadata

-- what is wrong with an archive's metadata in a session of this identifier, if anything
abbrev pub wrong_with : Option (List ℕ) → Naming → Option (List ℕ)
wrong_with session Unfinished = Some (codes "unfinished")
wrong_with session Unreadable = Some (codes "unreadable")
wrong_with session NoUuid = Some (codes "no uuid")
wrong_with session (Other own) = if is_uuid session own then Some (codes "other metadata") else Some (codes "another uuid")
wrong_with session (Named own) = if is_uuid session own then None else Some (codes "another uuid")

abbrev pub line_of_wrong : List ℕ → Option (List ℕ) → List (List ℕ)
line_of_wrong archive None = []
line_of_wrong archive (Some wrong) = archive_text archive wrong ∷ []

abbrev pub wrong_metadata : Option (List ℕ) → List (Numbered × Naming) → List (List ℕ)
wrong_metadata uuid = flat_map (λ (a : Numbered × Naming). line_of_wrong a.0.name (wrong_with uuid a.1))

-- ---- streams

-- the numbers from one on and below another
abbrev pub missing_below : ℕ → ℕ → List (List ℕ)
missing_below next number = if nat_lt next number then no_streams_text next (number - next) ∷ [] else []

-- runs of numbers below those of streams in order that none of them has, from a number on
abbrev pub wrong_streams : ℕ → List Numbered → List (List ℕ)
wrong_streams next [] = []
wrong_streams next (s ∷ streams) = missing_below next s.number ++ wrong_streams (capped_count (s.number + 1)) streams

-- ---- all of these

abbrev pub wrong_lines : Option (List ℕ) → List Numbered → List Naming → List Numbered → List (List ℕ)
wrong_lines uuid archives namings streams =
    wrong_in_order archives ++ (wrong_metadata uuid (zip archives namings) ++ wrong_streams 0 streams)

-- what begins a session, after this number of faults: its own lines, its deleted archives, and what is wrong with them all
abbrev pub head_told : List ℕ → Identity → List Numbered → List Naming → List Numbered → ℕ → Told ℕ
head_told session identity archives namings streams n =
    and_then (session_text session (uuid_of identity) (length archives))
    (and_then (source_text identity)
    (and_then (deleted_of archives) (faults_told n (wrong_lines (uuid_of identity) archives namings streams))))
