-- Why calls of a session are refused, as answers print it.
use Rattle.std.specs.Prelude.{ℕ, Bool, true, false, List, codes}
use Rattle.tr_session_book.specs.declared.faults.SessionFault.{SessionFault}
use Rattle.tr_session_book.specs.declared.faults.SessionFault.TheVariants.{SnapshotMode, NotSnapshotMode, NeverStarted, RotationPending, AlreadyRotated, AlreadyActive, NotActive, NoStream, DiscardInSnapshot, AlreadyStarted, BadGeometry, TooMany, NotPending, CutMissing, NameTaken, NoMemory, NoChannel, NoArchive, Released, Misplaced}

abbrev pub session_fault_code : SessionFault → List ℕ
session_fault_code SnapshotMode = codes "S1"
session_fault_code NotSnapshotMode = codes "S2"
session_fault_code NeverStarted = codes "S3"
session_fault_code RotationPending = codes "S4"
session_fault_code AlreadyRotated = codes "S5"
session_fault_code AlreadyActive = codes "S6"
session_fault_code NotActive = codes "S7"
session_fault_code NoStream = codes "S8"
session_fault_code DiscardInSnapshot = codes "S9"
session_fault_code AlreadyStarted = codes "S10"
session_fault_code BadGeometry = codes "S11"
session_fault_code TooMany = codes "S12"
session_fault_code NotPending = codes "S13"
session_fault_code CutMissing = codes "S14"
session_fault_code NameTaken = codes "S15"
session_fault_code NoMemory = codes "S16"
session_fault_code NoChannel = codes "S17"
session_fault_code NoArchive = codes "S18"
session_fault_code Released = codes "S19"
session_fault_code Misplaced = codes "S20"

abbrev pub session_fault_name : SessionFault → List ℕ
session_fault_name SnapshotMode = codes "SnapshotMode"
session_fault_name NotSnapshotMode = codes "NotSnapshotMode"
session_fault_name NeverStarted = codes "NeverStarted"
session_fault_name RotationPending = codes "RotationPending"
session_fault_name AlreadyRotated = codes "AlreadyRotated"
session_fault_name AlreadyActive = codes "AlreadyActive"
session_fault_name NotActive = codes "NotActive"
session_fault_name NoStream = codes "NoStream"
session_fault_name DiscardInSnapshot = codes "DiscardInSnapshot"
session_fault_name AlreadyStarted = codes "AlreadyStarted"
session_fault_name BadGeometry = codes "BadGeometry"
session_fault_name TooMany = codes "TooMany"
session_fault_name NotPending = codes "NotPending"
session_fault_name CutMissing = codes "CutMissing"
session_fault_name NameTaken = codes "NameTaken"
session_fault_name NoMemory = codes "NoMemory"
session_fault_name NoChannel = codes "NoChannel"
session_fault_name NoArchive = codes "NoArchive"
session_fault_name Released = codes "Released"
session_fault_name Misplaced = codes "Misplaced"

-- an allocation failed
abbrev pub session_wants_memory : SessionFault → Bool
session_wants_memory NoMemory = true
session_wants_memory other = false
