use Rattle.std.proofs.Common.{◌≡◌, ◌-◌, ◌++◌}
use Rattle.tr_export.specs.Failures.{HasNotFailed}
use Rattle.tr_export.specs.Making.{Makings, and_then_made}
use Rattle.tr_recover.proofs.PartLemmas.{empty_files}
use Rattle.tr_recover.proofs.writing.write_below.Given as goal

-- the files of the streams before are made
abbrev pub invariant-streams : goal.invariant-streams
invariant-streams g l = record {
  made : (done : Makings) × (g.D.Disk.made l.disk ≡ and_then_made (g.D.Disk.made l.initial.disk) done)
      × (empty_files l.folder l.next (l.stream - l.next) ≡ done ++ empty_files l.folder l.number (l.stream - l.number));
  works : HasNotFailed (g.D.Disk.failures l.initial.disk) (g.D.Disk.failures l.disk);
}
