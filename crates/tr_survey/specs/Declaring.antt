-- Which events are declared of a session: those of the first archive whose metadata are the recorder's text of its identifier.
use Rattle.std.specs.Prelude.{ℕ, Bool, false, ◌&&◌, nat_eq, nat_lt, List, [], ◌∷◌, codes, length, take, Option, Some, None, if◌then◌else◌}
use Rattle.std.specs.Cmp.Lexicographic.{pointwise}
use Rattle.std.specs.Option.{option_map_or}
use Rattle.tr_events.specs.Events.{Declarations, Event}
use Rattle.tr_folders.specs.Tree.{File, Tree}
use Rattle.tr_metadata.specs.Recovery.{declared_in}
use Rattle.tr_metadata.specs.declared.metadata.TheConstants.{LONGEST_METADATA}
use Rattle.tr_survey.specs.Order.{Numbered}
use Rattle.tr_survey.specs.Paths.{file_path}
use Rattle.tr_survey.specs.Streams.{TraceState, trace_state}
use Rattle.tr_survey.specs.declared.naming.Naming.{Naming}
use Rattle.tr_survey.specs.declared.naming.Naming.TheVariants.{Unfinished, Unreadable, NoUuid, Other, Named}

-- these metadata are the recorder's text of this identifier
abbrev pub is_named : List ℕ → Naming → Bool
is_named uuid Unfinished = false
is_named uuid Unreadable = false
is_named uuid NoUuid = false
is_named uuid (Other own) = false
is_named uuid (Named own) = pointwise nat_eq own uuid

-- the first of these archives whose metadata, which are these, are that
abbrev pub declaring : List ℕ → List Numbered → List Naming → Option Numbered
declaring uuid [] namings = None
declaring uuid (a ∷ archives) [] = None
declaring uuid (a ∷ archives) (n ∷ namings) = if is_named uuid n then Some a else declaring uuid archives namings

-- the events that a text declares
abbrev pub events_in_text : List ℕ → List Event
events_in_text text = option_map_or (λ (d : Declarations). d.events) (declared_in text) []

-- the events that a file of metadata declares, by its first bytes; none if it can't be read
abbrev pub events_in : Option File → List Event
events_in None = []
events_in (Some file) =
    if nat_lt (length file.bytes) LONGEST_METADATA && file.breaks then [] else events_in_text (take LONGEST_METADATA file.bytes)

-- those that an archive's metadata declare
abbrev pub events_at : Tree → List ℕ → Option Numbered → List Event
events_at t folder None = []
events_at t folder (Some archive) = events_in (t.file (file_path folder archive.name (codes "metadata")))

-- the trace of this identifier, by the archives of a folder and their metadata
abbrev pub trace_of : Tree → List ℕ → List ℕ → List Numbered → List Naming → TraceState
trace_of t folder uuid archives namings = trace_state uuid (events_at t folder (declaring uuid archives namings))
