use Rattle.std.proofs.Common.{◌≡◌, take}
use Rattle.tr_export.specs.Failures.{HasNotFailed}
use Rattle.tr_export.specs.Making.{and_then_made}
use Rattle.tr_program.specs.Exports.{all_made}
use Rattle.tr_program.proofs.running.write_all.Given as goal

-- what the earlier sessions have is made
abbrev pub invariant-sessions : goal.invariant-sessions
invariant-sessions g l = record {
  made : g.D.Disk.made l.disk ≡ and_then_made (g.D.Disk.made l.initial.disk) (all_made l.dir (record l.console { sessions = take l.k l.console.sessions }));
  works : HasNotFailed (g.D.Disk.failures l.initial.disk) (g.D.Disk.failures l.disk);
}
