use Rattle.std.proofs.Common.{◌≡◌, length}
use Rattle.tr_survey.specs.Metadata.{uuid_in}
use Rattle.tr_survey.proofs.naming.uuid_in.Given as goal

abbrev pub invariant-loop-end : goal.invariant-loop-end
invariant-loop-end l = uuid_in l.rest ≡ uuid_in l.bytes

abbrev pub decreases-loop-end : goal.decreases-loop-end
decreases-loop-end l = length l.rest
