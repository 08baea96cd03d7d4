use Rattle.std.proofs.Common.{◌≡◌, drop, map}
use Rattle.std.specs.List.{fold}
use Rattle.tr_picture.specs.Sessions.{extent_of, seen, with_line}
use Rattle.tr_picture.proofs.sessions.extent_of.Given as goal

abbrev pub invariant-loop-line : goal.invariant-loop-line
invariant-loop-line l = fold with_line l.extent (map seen (drop l.line-index l.lines)) ≡ extent_of (map seen l.lines)
