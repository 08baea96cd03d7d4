-- Answers of one line, without their newline.
use Rattle.std.specs.Fmt.{decimal}
use Rattle.std.specs.Prelude.{None, Option, Some, codes, ℕ, ℤ, ◌++◌, ◌∷◌}
use Rattle.tr_chunk.specs.ArchiveName.{archive_name_text}
use Rattle.tr_replies.specs.LineFaults.{line_fault_code, line_fault_name}
use Rattle.tr_replies.specs.Text.{Text}
use Rattle.tr_replies.specs.declared.line_fault.LineFault.{LineFault}
use Rattle.tr_replies.specs.declared.one_line.NamedArchive.{NamedArchive}
use Rattle.tr_schedule.specs.Schedules.{ScheduleState}
use Rattle.tr_session_book.specs.declared.archive.Archive.{Archive}
use Rattle.tr_stream.specs.declared.fate.Fate.{Fate}
use Rattle.tr_stream.specs.declared.fate.Fate.TheVariants as fate

abbrev pub refusal_text : LineFault → Text
refusal_text fault = codes "refused " ++ (line_fault_code fault ++ (32 ∷ line_fault_name fault))

-- a line that is no command
abbrev pub bad_line_text : Text
bad_line_text = codes "bad line"

-- a command that no live session answers: its program does that itself
abbrev pub script_only_text : Text
script_only_text = codes "refused K4 ScriptOnly"

abbrev pub started_text : Unit {0} → Text
started_text done = codes "started"

abbrev pub stopped_text : Unit {0} → Text
stopped_text done = codes "stopped"

-- the number of an archive and its name, by a clock this number of minutes ahead of UTC
abbrev pub archive_text : ℤ → Archive → Text
archive_text offset archive = decimal archive.id ++ (32 ∷ archive_name_text archive.begin archive.end offset archive.id)

-- the archive that a rotation made
abbrev pub archived_text : NamedArchive → Text
archived_text named = codes "archived " ++ archive_text named.offset named.archive

-- how many records a clear removed
abbrev pub cleared_text : ℕ → Text
cleared_text records = codes "cleared " ++ decimal records

-- the number of the archive that was released
abbrev pub released_text : ℕ → Unit {0} → Text
released_text archive done = codes "released " ++ decimal archive

-- that a schedule was set, or that there is none now
abbrev pub schedule_set_text : Text
schedule_set_text = codes "schedule set"

abbrev pub schedule_text : Option ScheduleState → Text
schedule_text None = codes "schedule off"
schedule_text (Some schedule) = schedule_set_text

-- what became of an offer; none: there was no such offer yet
abbrev pub fate_text : Option Fate → Text
fate_text None = codes "not offered"
fate_text (Some fate.Discarded) = codes "discarded"
fate_text (Some fate.Overwritten) = codes "overwritten"
fate_text (Some (fate.InRing seq)) = codes "in ring " ++ decimal seq
fate_text (Some (fate.Cleared seq)) = codes "cleared " ++ decimal seq
fate_text (Some fate.Forgotten) = codes "forgotten"
fate_text (Some (fate.InChunk chunk seq)) = codes "in chunk " ++ (decimal chunk ++ (32 ∷ decimal seq))
