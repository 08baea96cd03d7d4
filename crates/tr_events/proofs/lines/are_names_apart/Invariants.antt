use Rattle.std.proofs.Common.{◌≡◌, length, map}
use Rattle.std.specs.String.{string_bytes}
use Rattle.tr_events.specs.Lines.{are_names_apart}
use Rattle.tr_events.proofs.lines.are_names_apart.Given as goal

abbrev pub invariant-loop-rest : goal.invariant-loop-rest
invariant-loop-rest l = are_names_apart (map string_bytes l.rest) ≡ are_names_apart (map string_bytes l.names)

abbrev pub decreases-loop-rest : goal.decreases-loop-rest
decreases-loop-rest l = length l.rest
