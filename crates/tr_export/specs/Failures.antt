-- How often a disk failed, and which faults say so.
use Rattle.std.specs.Prelude.{◌≡◌, ℕ, Option, Some, Result, Ok, Err}
use Rattle.tr_export.specs.declared.faults.ExportFault.{ExportFault}
use Rattle.tr_export.specs.declared.faults.ExportFault.TheVariants.{Write, NoMemory}
use Rattle.tr_record.specs.Bytes.{once_more}

-- no failure came between, if it is known how many there were
abbrev pub HasNotFailed : Option ℕ → Option ℕ → Type 0
HasNotFailed before after = (n : ℕ) → before ≡ Some n → after ≡ Some n

-- one failure came between
abbrev pub HasFailed : Option ℕ → Option ℕ → Type 0
HasFailed before after = (n : ℕ) → before ≡ Some n → after ≡ Some (once_more n)

-- a call that ended like this failed once if it says `Write`, and otherwise never
abbrev pub FailedByWrite : Option ℕ → Option ℕ → Result (Unit {0}) ExportFault → Type 0
FailedByWrite before after (Ok done) = HasNotFailed before after
FailedByWrite before after (Err Write) = HasFailed before after
FailedByWrite before after (Err NoMemory) = HasNotFailed before after
