-- What numbers and bytes from outside stand for.
use Rattle.std.specs.Prelude.{ℕ, Bool, ◌==◌, ◌||◌, List, length, Option, Some, None, Result, Ok, Err, if◌then◌else◌}
use Rattle.tr_border.specs.Codes.{code_number}
use Rattle.tr_border.specs.declared.codes.TheConstants.{BAD_MODE, BAD_UUID}
use Rattle.tr_schedule.specs.Schedules.{ScheduleState, schedule_of}
use Rattle.tr_schedule.specs.declared.faults.ScheduleFault.{ScheduleFault}
use Rattle.tr_stream.specs.declared.config.StreamConfig.{StreamConfig}
use Rattle.tr_terms.specs.Geometry.{GeometryState, geometry_of, geometry_fault_code}
use Rattle.tr_terms.specs.Names.{is_name}
use Rattle.tr_terms.specs.declared.geometry.GeometryFault.{GeometryFault}
use Rattle.tr_terms.specs.declared.mode.Mode.{Mode}
use Rattle.tr_terms.specs.declared.mode.Mode.TheVariants.{Discard, Overwrite}
use Rattle.tr_terms.specs.declared.session_mode.SessionMode.{SessionMode}
use Rattle.tr_terms.specs.declared.session_mode.SessionMode.TheVariants.{Local, Snapshot}

abbrev pub mode_of : ℕ → Option Mode
mode_of n = if n == 0 then Some Discard else (if n == 1 then Some Overwrite else None)

abbrev pub session_mode_of : ℕ → Option SessionMode
session_mode_of n = if n == 0 then Some Local else (if n == 1 then Some Snapshot else None)

-- an identifier has 16 bytes
abbrev pub uuid_of : List ℕ → Option (List ℕ)
uuid_of bytes = if length bytes == 16 then Some bytes else None

abbrev pub config_of_parts : Option (List ℕ) → ℕ → Result GeometryState GeometryFault → Option Mode → Option SessionMode → Result StreamConfig ℕ
config_of_parts None number geometry mode session = Err BAD_UUID
config_of_parts (Some uuid) number (Err fault) mode session = Err (code_number (geometry_fault_code fault))
config_of_parts (Some uuid) number (Ok geometry) None session = Err BAD_MODE
config_of_parts (Some uuid) number (Ok geometry) (Some mode) None = Err BAD_MODE
config_of_parts (Some uuid) number (Ok geometry) (Some mode) (Some session) =
    Ok (record { uuid = uuid; number = number; geometry = geometry; mode = mode; session = session })

-- what a stream is to be made with, or the number of the first refusal that applies
abbrev pub config_of : List ℕ → ℕ → ℕ → ℕ → ℕ → ℕ → Result StreamConfig ℕ
config_of uuid number size count mode session =
    config_of_parts (uuid_of uuid) number (geometry_of size count) (mode_of mode) (session_mode_of session)

-- a text that is a name
abbrev pub name_of : List ℕ → Option (List ℕ)
name_of bytes = if is_name bytes then Some bytes else None

-- a number that may be left out
abbrev pub number_if : Bool → ℕ → Option ℕ
number_if there n = if there then Some n else None

abbrev pub some_schedule : Result ScheduleState ScheduleFault → Result (Option ScheduleState) ScheduleFault
some_schedule (Ok schedule) = Ok (Some schedule)
some_schedule (Err fault) = Err fault

-- the schedule with this period and this size limit, or none without both
abbrev pub schedule_given : Bool → ℕ → Bool → ℕ → Result (Option ScheduleState) ScheduleFault
schedule_given timer every by_size size =
    if timer || by_size then some_schedule (schedule_of (number_if timer every) (number_if by_size size)) else Ok None
