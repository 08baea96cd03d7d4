use Rattle.std.proofs.Common.{◌≡◌}
use Rattle.tr_export.specs.Archives.{stream_files}
use Rattle.tr_export.specs.Failures.{HasNotFailed}
use Rattle.tr_export.specs.Making.{and_then_made}
use Rattle.tr_export.proofs.writing.write_streams.Given as goal

-- what the earlier streams have is made
abbrev pub invariant-streams : goal.invariant-streams
invariant-streams g l = record {
  made : g.D.Disk.made l.disk ≡ and_then_made (g.D.Disk.made l.initial.disk) (stream_files l.folder l.id l.session l.i);
  works : HasNotFailed (g.D.Disk.failures l.initial.disk) (g.D.Disk.failures l.disk);
}
