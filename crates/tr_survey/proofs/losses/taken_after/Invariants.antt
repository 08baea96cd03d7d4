use Rattle.std.proofs.Common.{◌≡◌}
use Rattle.tr_survey.specs.Losses.{taken_after}
use Rattle.tr_survey.proofs.losses.taken_after.Given as goal

-- with the records that are left, those taken in the end are the same
abbrev pub invariant-loop-event : goal.invariant-loop-event
invariant-loop-event l = taken_after l.archive l.taken l.event-iterator ≡ taken_after l.archive l.fn.before l.fn.packet.records
