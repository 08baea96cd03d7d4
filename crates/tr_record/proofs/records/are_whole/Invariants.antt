use Rattle.std.proofs.Common.{length, ◌↔◌}
use Rattle.tr_record.specs.Whole.{AreWhole}
use Rattle.tr_record.proofs.records.are_whole.Given as goal

abbrev pub invariant-loop-rest : goal.invariant-loop-rest
invariant-loop-rest l = AreWhole l.bytes ↔ AreWhole l.rest

abbrev pub decreases-loop-rest : goal.decreases-loop-rest
decreases-loop-rest l = length l.rest
