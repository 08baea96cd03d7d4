-- Why a run of a script ends early.
use Rattle.std.specs.Prelude.{ℕ, List, codes}
use Rattle.tr_console.specs.declared.script_fault.ScriptFault.{ScriptFault}
use Rattle.tr_console.specs.declared.script_fault.ScriptFault.TheVariants as script
use Rattle.tr_lines.specs.declared.reader.ReadFault.{ReadFault}
use Rattle.tr_lines.specs.declared.reader.ReadFault.TheVariants as line

abbrev pub script_fault_code : ScriptFault → List ℕ
script_fault_code script.Read = codes "Q1"
script_fault_code script.TooLong = codes "Q2"
script_fault_code script.Write = codes "Q3"
script_fault_code script.NoMemory = codes "Q4"

abbrev pub script_fault_name : ScriptFault → List ℕ
script_fault_name script.Read = codes "Read"
script_fault_name script.TooLong = codes "TooLong"
script_fault_name script.Write = codes "Write"
script_fault_name script.NoMemory = codes "NoMemory"

-- the fault of a run whose next line could not be read
abbrev pub reading_fault : ReadFault → ScriptFault
reading_fault line.Read = script.Read
reading_fault line.TooLong = script.TooLong
reading_fault line.NoMemory = script.NoMemory
