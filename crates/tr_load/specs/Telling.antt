-- A load that is reported to an output, and its archives on a disk.
use Rattle.std.specs.Prelude.{◌≡◌, ◌⊎◌, ℕ, List, Option, Some, None, Result, Ok, Err, codes}
use Rattle.tr_chunk.specs.Files.{Sunk, WentOut}
use Rattle.tr_export.specs.Archives.{archives_made}
use Rattle.tr_export.specs.Failures.{FailedByWrite}
use Rattle.tr_export.specs.Making.{MadePrefix, Makings, and_then_made}
use Rattle.tr_export.specs.declared.disk.Disk as Disk
use Rattle.tr_export.specs.declared.faults.ExportFault.{ExportFault}
use Rattle.tr_export.specs.declared.faults.ExportFault.TheVariants.{Write, NoMemory}
use Rattle.tr_load.specs.Texts.{outcome_text}
use Rattle.tr_pool.specs.declared.report.Mismatch.{Mismatch}
use Rattle.tr_pool.specs.declared.report.Report.{Report}
use Rattle.tr_record.specs.Bytes.{and_then_bytes, once_more}
use Rattle.tr_session.specs.Session.{SessionOf}
use Rattle.tr_stream.specs.State.{StreamState}

-- what is known of a disk at one step: what was made on it, and how often it failed
pub record DiskState : Type 0 where
  pub made : Option Makings
  pub failures : Option ℕ

abbrev pub disk_of : {D F : Type 0} → Disk.Ghosts D F → D → DiskState
disk_of disks disk = record { made = disks.made disk; failures = disks.failures disk }

-- what became of the archives of a load's session
abbrev pub AreWritten : List ℕ → SessionOf StreamState → DiskState → DiskState → Result (Unit {0}) ExportFault → Type 0
AreWritten dir session before after (Ok done) = after.made ≡ and_then_made before.made (archives_made dir (codes "load") session)
AreWritten dir session before after (Err fault) = MadePrefix before.made after.made (archives_made dir (codes "load") session)

-- a load's archives were written below a folder, if one is named, or a failure or a failed allocation came between
abbrev pub WritesLoad : Option (List ℕ) → SessionOf StreamState → DiskState → DiskState → Result (Unit {0}) ExportFault → Type 0
WritesLoad None session before after result = (after ≡ before) × (result ≡ Ok tt)
WritesLoad (Some dir) session before after result =
    AreWritten dir session before after result × FailedByWrite before.failures after.failures result

-- the text went out, and then the archives were written
abbrev pub GoesOn : Option (List ℕ) → List ℕ → SessionOf StreamState → Sunk → Sunk → DiskState → DiskState
    → Result (Unit {0}) ExportFault → Type 0
GoesOn dir text session out out_now disk disk_now result =
    (out_now.taken ≡ and_then_bytes out.taken text) × (out_now.failures ≡ out.failures) × WritesLoad dir session disk disk_now result

-- the output failed, or an allocation before it: nothing was made
abbrev pub StopsShort : List ℕ → Sunk → Sunk → ExportFault → Type 0
StopsShort text out out_now Write = WentOut out.taken out_now.taken text × (out_now.failures ≡ once_more out.failures)
StopsShort text out out_now NoMemory = out_now ≡ out

-- the text goes out, and then the archives are written; or the text doesn't go out as a whole, and nothing is made
abbrev pub TellsLoad : Option (List ℕ) → ℕ → SessionOf StreamState → Result Report Mismatch → Option ℕ → Sunk → Sunk → DiskState → DiskState
    → Result (Unit {0}) ExportFault → Type 0
TellsLoad dir threads session outcome watched out out_now disk disk_now result =
    GoesOn dir (outcome_text threads outcome watched) session out out_now disk disk_now result
    ⊎ ((fault : ExportFault) × (result ≡ Err fault) × StopsShort (outcome_text threads outcome watched) out out_now fault
    × (disk_now ≡ disk))
