use Rattle.std.proofs.Common.{◌≡◌, take}
use Rattle.std.specs.List.{flat_map}
use Rattle.tr_export.specs.Archives.{archive_made}
use Rattle.tr_export.specs.Failures.{HasNotFailed}
use Rattle.tr_export.specs.Making.{and_then_made}
use Rattle.tr_export.proofs.writing.write_archives.Given as goal

-- the earlier archives are made
abbrev pub invariant-archives : goal.invariant-archives
invariant-archives g l = record {
  made : g.D.Disk.made l.disk
      ≡ and_then_made (g.D.Disk.made l.initial.disk)
      (flat_map (archive_made l.dir l.name l.session) (take l.archive-index l.session.book.archives));
  works : HasNotFailed (g.D.Disk.failures l.initial.disk) (g.D.Disk.failures l.disk);
}
