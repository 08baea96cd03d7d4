-- How often reading failed.
use Rattle.std.specs.Prelude.{ℕ, Result, Ok, Err}
use Rattle.tr_record.specs.Bytes.{once_more}
use Rattle.tr_folders.specs.declared.faults.ReadFault.{ReadFault}
use Rattle.tr_folders.specs.declared.faults.ReadFault.TheVariants.{Unreadable, TooMuch, NoMemory}

-- the failures after this fault: that something can't be read is none
abbrev pub read_failures : ReadFault → ℕ → ℕ
read_failures Unreadable count = count
read_failures TooMuch count = once_more count
read_failures NoMemory count = count

-- those after a call with this result, which itself reads
abbrev pub after_reading : {R : Type 0} → Result R ReadFault → ℕ → ℕ
after_reading (Ok done) count = count
after_reading (Err fault) count = read_failures fault count
