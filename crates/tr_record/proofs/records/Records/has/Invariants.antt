use Rattle.std.proofs.Common.{◌≡◌}
use Rattle.tr_record.specs.Records.{has_serial}
use Rattle.tr_record.proofs.records.Records.has.Given as goal

-- the records that were looked at don't have it
abbrev pub invariant-loop-r : goal.invariant-loop-r
invariant-loop-r l = has_serial l.serial l.r-iterator ≡ has_serial l.serial l.fn.self
