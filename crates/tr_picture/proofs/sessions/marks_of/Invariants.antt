use Rattle.std.proofs.Common.{◌≡◌, drop, map}
use Rattle.std.specs.List.{fold}
use Rattle.tr_picture.specs.Sessions.{marks_of, seen, with_marks}
use Rattle.tr_picture.proofs.sessions.marks_of.Given as goal

abbrev pub invariant-loop-line : goal.invariant-loop-line
invariant-loop-line l = fold with_marks l.marks (map seen (drop l.line-index l.lines)) ≡ marks_of (map seen l.lines)
