use Rattle.std.proofs.Common.{◌≡◌, ◌+◌}
use Rattle.tr_survey.specs.Losses.{missing_among}
use Rattle.tr_survey.proofs.losses.unplaced.Given as goal

-- what was missing so far and what is missing among the records that are left are what is missing in all
abbrev pub invariant-loop-event : goal.invariant-loop-event
invariant-loop-event l = l.fn.count + missing_among l.from l.event-iterator ≡ l.left + missing_among l.fn.next l.fn.packet.records
