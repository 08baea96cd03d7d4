use Rattle.std.proofs.Common.{◌≡◌, ◌<◌, ◌≤◌, Some, length}
use Rattle.tr_folders.specs.Tree.{File}
use Rattle.tr_folders.specs.declared.folders.TheConstants.{MOST_BYTES}
use Rattle.tr_picture.specs.Rows.{file_row}
use Rattle.tr_picture.specs.Steps.{AreFew}
use Rattle.tr_picture.proofs.RowLemmas.{ReadSoFar}
use Rattle.tr_survey.specs.Listing.{key_of}
use Rattle.tr_survey.specs.Streams.{place}
use Rattle.tr_picture.proofs.files.take_file.Given as goal

abbrev pub invariant-pieces : goal.invariant-pieces
invariant-pieces g l = record {
  room : length l.buffer ≡ length l.initial.buffer;
  each : l.counter ≤ g.F.Folders.given l.folders;
  fewer : 0 < l.counter → g.F.Folders.given l.folders < MOST_BYTES;
  tree : g.F.Folders.tree l.folders ≡ g.F.Folders.tree l.initial.folders;
  reads : g.F.Folders.failures l.folders ≡ g.F.Folders.failures l.initial.folders;
  few : AreFew l.held.items;
  so_far : (file : File) → g.F.Folders.left l.initial.folders ≡ Some file
      → ReadSoFar (file_row l.rule.frame.now (place l.rule.uuid.now l.rule.stream (key_of l.rule.archive.now)) l.initial.row (Some file))
      l.rule.frame.now (place l.rule.uuid.now l.rule.stream (key_of l.rule.archive.now)) file.breaks (g.F.Folders.left l.folders) l.row l.held.items;
}
