use Rattle.std.proofs.Common.{◌≡◌, ◌++◌, map, take}
use Rattle.std.specs.Prelude.{codes}
use Rattle.tr_survey.specs.Lines.{shown}
use Rattle.tr_survey.proofs.lines.passed_line.Given as goal

abbrev pub invariant-loop-byte : goal.invariant-loop-byte
invariant-loop-byte l = l.line.items ≡ codes "passed over " ++ map shown (take l.byte-index l.bytes)
