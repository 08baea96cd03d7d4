use Rattle.std.proofs.Common.{◌≡◌, length}
use Rattle.tr_events.specs.Types.{are_labels_apart}
use Rattle.tr_events.proofs.types.are_labels_apart.Given as goal

abbrev pub invariant-loop-rest : goal.invariant-loop-rest
invariant-loop-rest l = are_labels_apart l.rest ≡ are_labels_apart l.labels

abbrev pub decreases-loop-rest : goal.decreases-loop-rest
decreases-loop-rest l = length l.rest
