use Rattle.std.proofs.Common.{◌≡◌, ◌-◌, ◌≤◌, ◌++◌, drop, length}
use Rattle.tr_export.specs.Failures.{HasNotFailed}
use Rattle.tr_export.specs.Making.{Makings, and_then_made}
use Rattle.tr_recover.specs.Archive.{files_made, parted, parts_streams, streams_made}
use Rattle.tr_recover.proofs.writing.write_streams.Given as goal

-- the files of the streams before are made
abbrev pub invariant-loop-at : goal.invariant-loop-at
invariant-loop-at g l = record {
  within : l.at ≤ length l.packets;
  made : (done : Makings) × (g.D.Disk.made l.disk ≡ and_then_made (g.D.Disk.made l.initial.disk) done)
      × (streams_made l.folder l.packets ≡ done ++ files_made l.folder (parts_streams l.next (parted (drop l.at l.packets))));
  works : HasNotFailed (g.D.Disk.failures l.initial.disk) (g.D.Disk.failures l.disk);
}

abbrev pub decreases-loop-at : goal.decreases-loop-at
decreases-loop-at g l = length l.packets - l.at
