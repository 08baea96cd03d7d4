use Rattle.std.proofs.Common.{◌≡◌, length}
use Rattle.tr_survey.specs.Metadata.{without_indent}
use Rattle.tr_survey.proofs.naming.without_indent.Given as goal

abbrev pub invariant-loop-rest : goal.invariant-loop-rest
invariant-loop-rest l = without_indent l.rest ≡ without_indent l.line

abbrev pub decreases-loop-rest : goal.decreases-loop-rest
decreases-loop-rest l = length l.rest
