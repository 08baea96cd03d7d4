use Rattle.std.proofs.Common.{◌≡◌, drop, map}
use Rattle.std.specs.List.{fold}
use Rattle.tr_picture.specs.Sessions.{faults_in, seen, with_faults}
use Rattle.tr_picture.proofs.sessions.faults_in.Given as goal

abbrev pub invariant-loop-line : goal.invariant-loop-line
invariant-loop-line l = fold with_faults l.faults (map seen (drop l.line-index l.lines)) ≡ faults_in (map seen l.lines)
