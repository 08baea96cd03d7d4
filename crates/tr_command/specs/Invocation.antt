-- The program's command line, as clap sees it, and what its words ask for.
use Rattle.std.specs.Prelude.{ℕ, Bool, List, [], ◌∷◌, ◌≤◌, Option, Some, None, String, map, nat_le, option_map, option_and_then, codes, string_bytes, if◌then◌else◌}
use Rattle.std.specs.Borrow.{Bor}
use Rattle.std.specs.Str.{bytes_eq}
use Rattle.clap.specs.Words.{App, Row, Text, first_of, new_app, with_subcommand}
use Rattle.tr_command.specs.CommandLine.{flag, line_app, option, place}
use Rattle.tr_command.specs.Language.{entered_by}
use Rattle.tr_command.specs.Reading.{and_last, and_then, has_flag, number_given}
use Rattle.tr_terms.specs.declared.limits.TheConstants.{MOST_FEEDERS, MOST_RECORDS, MOST_WORKERS}
use Rattle.tr_command.specs.declared.invocation.Job.{Job}
use Rattle.tr_command.specs.declared.invocation.Job.TheVariants as job

-- the folder below which the archives of a run go, if one is named
abbrev pub Folder : Type 0
Folder = Option Text

-- the file that declares the events of a run, if one is named
abbrev pub Declarations : Type 0
Declarations = Option Text

-- a job with its text in place of a reference to it
pub data Task : Type 0 where
  Script : (events : Declarations) (out : Folder) → Task
  Load : (threads records workers : ℕ) (watch : Bool) (out : Folder) → Task
  Audit : (dir : Text) (archives : Bool) → Task
  Describe : (events dir : Text) → Task
  Picture : (dir : Text) → Task
  Recover : (uuid : Option Text) (image dir : Text) → Task

-- a folder or a file by its text
abbrev pub folder_named : Option (Bor Text) → Folder
folder_named out = option_map (λ d. d.now) out

abbrev pub task_of : Job → Task
task_of (job.Script events out) = Script (folder_named events) (folder_named out)
task_of (job.Load threads records workers watch out) = Load threads records workers watch (folder_named out)
task_of (job.Audit dir archives) = Audit dir.now archives
task_of (job.Describe events dir) = Describe events.now dir.now
task_of (job.Picture dir) = Picture dir.now
task_of (job.Recover uuid image dir) = Recover (folder_named uuid) image.now dir.now

-- the numbers of a load lie within their limits
abbrev pub IsWithinLimits : Job → Type 0
IsWithinLimits (job.Script events out) = Unit
IsWithinLimits (job.Load threads records workers watch out) =
    ((1 ≤ threads) × (threads ≤ MOST_FEEDERS)) × (records ≤ MOST_RECORDS) × ((1 ≤ workers) × (workers ≤ MOST_WORKERS))
IsWithinLimits (job.Audit dir archives) = Unit
IsWithinLimits (job.Describe events dir) = Unit
IsWithinLimits (job.Picture dir) = Unit
IsWithinLimits (job.Recover uuid image dir) = Unit

-- `script [--events FILE] [--out DIR]`
abbrev pub script_run_app : App
script_run_app = line_app (codes "script") (option (codes "events") ∷ option (codes "out") ∷ [])

-- `load --threads T --records R --workers W [--watch] [--out DIR]`
abbrev pub load_app : App
load_app = line_app (codes "load")
    (option (codes "threads") ∷ option (codes "records") ∷ option (codes "workers") ∷ flag (codes "watch") ∷ option (codes "out") ∷ [])

-- `audit [--archives] DIR`
abbrev pub audit_app : App
audit_app = line_app (codes "audit") (flag (codes "archives") ∷ place (codes "dir") ∷ [])

-- `describe --events FILE DIR`
abbrev pub describe_app : App
describe_app = line_app (codes "describe") (option (codes "events") ∷ place (codes "dir") ∷ [])

-- `picture DIR`
abbrev pub picture_app : App
picture_app = line_app (codes "picture") (place (codes "dir") ∷ [])

-- `recover [--uuid UUID] IMAGE DIR`
abbrev pub recover_app : App
recover_app = line_app (codes "recover") (option (codes "uuid") ∷ place (codes "image") ∷ place (codes "dir") ∷ [])

-- `tracerd script ..` and `tracerd load ..`
abbrev pub recording_app : App
recording_app = with_subcommand (with_subcommand (new_app (codes "tracerd")) script_run_app.top) load_app.top

-- the same, `tracerd audit ..` and `tracerd describe ..`
abbrev pub reading_app : App
reading_app = with_subcommand (with_subcommand recording_app audit_app.top) describe_app.top

-- the same, `tracerd picture ..` and `tracerd recover ..`
abbrev pub program_app : App
program_app = with_subcommand (with_subcommand reading_app picture_app.top) recover_app.top

-- a named folder or file has a name that isn't empty
abbrev pub folder_given : Option Text → Option Folder
folder_given None = Some None
folder_given (Some []) = None
folder_given (Some (byte ∷ bytes)) = Some (Some (byte ∷ bytes))

-- the number of an option, if one is given and lies within these limits
abbrev pub count_given : Text → (least most : ℕ) → List Row → Option ℕ
count_given id least most rows =
    and_then (number_given id most rows) (λ n. if nat_le least n then Some n else None)

-- the file of declared events, and the folder for the archives, each if it is named
abbrev pub script_given : List Row → Option Task
script_given rows =
    and_then (folder_given (first_of (codes "events") rows)) (λ events.
    and_last (folder_given (first_of (codes "out") rows)) (λ out. Script events out))

abbrev pub load_given : List Row → Option Task
load_given rows =
    and_then (count_given (codes "threads") 1 MOST_FEEDERS rows) (λ threads.
    and_then (count_given (codes "records") 0 MOST_RECORDS rows) (λ records.
    and_then (count_given (codes "workers") 1 MOST_WORKERS rows) (λ workers.
    and_last (folder_given (first_of (codes "out") rows)) (λ out.
    Load threads records workers (has_flag (codes "watch") rows) out))))

-- the folder to audit, if its name isn't empty, and whether archive by archive
abbrev pub audit_given : List Row → Option Task
audit_given rows =
    and_then (folder_given (first_of (codes "dir") rows)) (λ named. and_last named (λ dir.
    Audit dir (has_flag (codes "archives") rows)))

-- the file of declared events, and the folder whose archives get their metadata
abbrev pub describe_given : List Row → Option Task
describe_given rows =
    and_then (folder_given (first_of (codes "events") rows)) (λ file. and_then file (λ events.
    and_then (folder_given (first_of (codes "dir") rows)) (λ named. and_last named (λ dir. Describe events dir))))

-- the folder of which a picture is drawn
abbrev pub picture_given : List Row → Option Task
picture_given rows =
    and_then (folder_given (first_of (codes "dir") rows)) (λ named. and_last named (λ dir. Picture dir))

-- the trace's identifier, if one is named, the image, and the folder for the archive
abbrev pub recover_given : List Row → Option Task
recover_given rows =
    and_then (folder_given (first_of (codes "uuid") rows)) (λ uuid.
    and_then (folder_given (first_of (codes "image") rows)) (λ file. and_then file (λ image.
    and_then (folder_given (first_of (codes "dir") rows)) (λ named. and_last named (λ dir. Recover uuid image dir)))))

-- what the command that was entered asks for
abbrev pub job_named : Text → List Row → Option Task
job_named name rows =
    if bytes_eq name (codes "script") then script_given rows else
    (if bytes_eq name (codes "load") then load_given rows else
    (if bytes_eq name (codes "audit") then audit_given rows else
    (if bytes_eq name (codes "describe") then describe_given rows else
    (if bytes_eq name (codes "picture") then picture_given rows else
    (if bytes_eq name (codes "recover") then recover_given rows else None)))))

-- what these words ask for, the program's name before them: a run of a script, a load, an audit, typed metadata for archives, a
-- picture, or the archive of an image; none is a bad command line
unfoldable pub job_of : List Text → Option Task
job_of words = option_and_then (λ entered. job_named entered.0 entered.1) (entered_by program_app words)

-- what the words after the program's name ask for
abbrev pub job_asked : List Text → Option Task
job_asked words = job_of (codes "tracerd" ∷ words)

abbrev pub after_first : {A : Type 0} → List A → List A
after_first [] = []
after_first (x ∷ xs) = xs

-- the words of arguments, without the first one, the program's name
abbrev pub words_of : {Z : Type 0} → List (String Z) → List Text
words_of arguments = map string_bytes (after_first arguments)
