use Rattle.std.proofs.Common.{◌≡◌, Some, drop, length, map}
use Rattle.tr_folders.specs.Tree.{Tree}
use Rattle.tr_picture.specs.Rows.{files_row, stream_row}
use Rattle.tr_survey.specs.Listing.{key_of}
use Rattle.tr_picture.proofs.files.stream_row.Given as goal

abbrev pub invariant-loop-archive : goal.invariant-loop-archive
invariant-loop-archive g l = record {
  room : length l.buffer ≡ length l.initial.buffer;
  tree : g.F.Folders.tree l.folders ≡ g.F.Folders.tree l.initial.folders;
  failures : g.F.Folders.failures l.folders ≡ g.F.Folders.failures l.initial.folders;
  row : (t : Tree) → g.F.Folders.tree l.initial.folders ≡ Some t
      → files_row l.frame t l.folder l.uuid (key_of l.stream) l.row (map key_of (drop l.archive-index l.archives))
      ≡ stream_row l.frame t l.folder l.uuid (map key_of l.archives) (key_of l.stream);
}
