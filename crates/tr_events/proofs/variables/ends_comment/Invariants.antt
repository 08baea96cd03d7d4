use Rattle.std.proofs.Common.{◌≡◌, length}
use Rattle.tr_events.specs.Variables.{ends_comment}
use Rattle.tr_events.proofs.variables.ends_comment.Given as goal

abbrev pub invariant-loop-rest : goal.invariant-loop-rest
invariant-loop-rest l = ends_comment l.rest ≡ ends_comment l.bytes

abbrev pub decreases-loop-rest : goal.decreases-loop-rest
decreases-loop-rest l = length l.rest
