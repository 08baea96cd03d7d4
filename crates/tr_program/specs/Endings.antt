-- How runs of the program end.
use Rattle.std.specs.Prelude.{ℕ, zero, suc, List, [], ◌∷◌, ◌++◌, Option, Some, None, Result, Ok, Err, codes}
use Rattle.std.specs.declared.io.ErrorKind.{ErrorKind}
use Rattle.std.specs.declared.io.ErrorKind.TheVariants.{OutOfMemory}
use Rattle.tr_console.specs.declared.script_fault.ScriptFault.{ScriptFault}
use Rattle.tr_console.specs.declared.script_fault.ScriptFault.TheVariants as fault
use Rattle.tr_describe.specs.declared.faults.DescribeFault.{DescribeFault}
use Rattle.tr_describe.specs.declared.faults.DescribeFault.TheVariants as describe
use Rattle.tr_describe.specs.declared.telling.Outcome.{Outcome}
use Rattle.tr_describe.specs.declared.telling.Outcome.TheVariants as outcome
use Rattle.tr_export.specs.declared.faults.ExportFault.{ExportFault}
use Rattle.tr_export.specs.declared.faults.ExportFault.TheVariants as export
use Rattle.tr_load.specs.declared.loaded.LoadFault.{LoadFault}
use Rattle.tr_load.specs.declared.loaded.LoadFault.TheVariants as load
use Rattle.tr_pool.specs.declared.report.Mismatch.{Mismatch}
use Rattle.tr_pool.specs.declared.report.Report.{Report}
use Rattle.tr_recover.specs.declared.faults.RecoverFault.{RecoverFault}
use Rattle.tr_recover.specs.declared.faults.RecoverFault.TheVariants as recover
use Rattle.tr_recover.specs.declared.faults.Recovered.{Recovered}
use Rattle.tr_recover.specs.declared.faults.Recovered.TheVariants as recovered
use Rattle.tr_survey.specs.declared.faults.SurveyFault.{SurveyFault}
use Rattle.tr_survey.specs.declared.faults.SurveyFault.TheVariants as survey
use Rattle.tr_survey.specs.declared.faults.Surveyed.{Surveyed}
use Rattle.tr_survey.specs.declared.faults.Surveyed.TheVariants as surveyed
use Rattle.tr_program.specs.declared.ending.Ending.{Ending}
use Rattle.tr_program.specs.declared.ending.Ending.TheVariants.{Done, Refused, Faulty, BadCommandLine, ReadOrWrite, NoSession, NoMemory}

abbrev pub status_of : Ending → ℕ
status_of Done = 0
status_of Refused = 1
status_of Faulty = 1
status_of BadCommandLine = 2
status_of ReadOrWrite = 3
status_of NoSession = 3
status_of NoMemory = 4

-- the line that standard error gets, if any
abbrev pub message_of : Ending → Option (List ℕ)
message_of Done = None
message_of Refused = None
message_of Faulty = None
message_of BadCommandLine = Some (codes "tracerd: bad command line" ++ 10 ∷ [])
message_of ReadOrWrite = Some (codes "tracerd: read or write fault" ++ 10 ∷ [])
message_of NoSession = Some (codes "tracerd: no session" ++ 10 ∷ [])
message_of NoMemory = Some (codes "tracerd: no memory" ++ 10 ∷ [])

abbrev pub ending_of_script : ScriptFault → Ending
ending_of_script fault.Read = ReadOrWrite
ending_of_script fault.TooLong = ReadOrWrite
ending_of_script fault.Write = ReadOrWrite
ending_of_script fault.NoMemory = NoMemory

-- the arguments couldn't be taken: an allocation failed, or one isn't UTF-8
abbrev pub ending_of_arguments : ErrorKind → Ending
ending_of_arguments OutOfMemory = NoMemory
ending_of_arguments _ = BadCommandLine

abbrev pub ending_of_export : ExportFault → Ending
ending_of_export export.Write = ReadOrWrite
ending_of_export export.NoMemory = NoMemory

-- a script that came to its end, with this number of refused lines
abbrev pub ending_of_refused : ℕ → Ending
ending_of_refused zero = Done
ending_of_refused (suc n) = Refused

-- a load whose logs agree with its session, or don't
abbrev pub ending_of_outcome : Result Report Mismatch → Ending
ending_of_outcome (Ok report) = Done
ending_of_outcome (Err mismatch) = Refused

abbrev pub ending_of_load : LoadFault → Ending
ending_of_load load.Misplaced = Refused
ending_of_load load.NoMemory = NoMemory

-- a load that was settled, and then reported with this result
abbrev pub ending_of_told : Result Report Mismatch → Result (Unit {0}) ExportFault → Ending
ending_of_told outcome (Ok done) = ending_of_outcome outcome
ending_of_told outcome (Err fault) = ending_of_export fault

-- an audit that came to its end: the folder can't be read, or has no session, or there are so many faults
abbrev pub ending_of_audit : Surveyed → Ending
ending_of_audit surveyed.Unlisted = ReadOrWrite
ending_of_audit surveyed.NoSession = NoSession
ending_of_audit (surveyed.Faults zero) = Done
ending_of_audit (surveyed.Faults (suc n)) = Faulty

abbrev pub ending_of_survey : Result Surveyed SurveyFault → Ending
ending_of_survey (Ok said) = ending_of_audit said
ending_of_survey (Err survey.TooMuch) = ReadOrWrite
ending_of_survey (Err survey.Write) = ReadOrWrite
ending_of_survey (Err survey.NoMemory) = NoMemory

-- archives that were to be described: what that came to, or why it isn't known
abbrev pub ending_of_described : Outcome → Ending
ending_of_described outcome.Unreadable = ReadOrWrite
ending_of_described outcome.NoSession = NoSession
ending_of_described outcome.Refused = Refused
ending_of_described outcome.Wrong = Faulty
ending_of_described outcome.Done = Done

abbrev pub ending_of_describe : Result Outcome DescribeFault → Ending
ending_of_describe (Ok said) = ending_of_described said
ending_of_describe (Err describe.TooMuch) = ReadOrWrite
ending_of_describe (Err describe.Write) = ReadOrWrite
ending_of_describe (Err describe.NoMemory) = NoMemory

-- an image whose packets were to be recovered: what that came to, or why it isn't known
abbrev pub ending_of_recovered : Recovered → Ending
ending_of_recovered recovered.Unreadable = ReadOrWrite
ending_of_recovered recovered.Nothing = NoSession
ending_of_recovered recovered.Done = Done

abbrev pub ending_of_recover : Result Recovered RecoverFault → Ending
ending_of_recover (Ok said) = ending_of_recovered said
ending_of_recover (Err recover.TooMuch) = ReadOrWrite
ending_of_recover (Err recover.Write) = ReadOrWrite
ending_of_recover (Err recover.NoMemory) = NoMemory
