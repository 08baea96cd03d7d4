use Rattle.std.proofs.Common.{◌≡◌, ◌++◌, Some, map, take}
use Rattle.tr_folders.specs.Tree.{Tree}
use Rattle.tr_survey.specs.Identifiers.{uuids_of_stream}
use Rattle.tr_survey.specs.Listing.{key_of}
use Rattle.tr_survey.proofs.identifiers.push_uuids.Given as goal

abbrev pub invariant-loop-archive : goal.invariant-loop-archive
invariant-loop-archive g l = record {
  tree : g.F.Folders.tree l.folders ≡ g.F.Folders.tree l.initial.folders;
  failures : g.F.Folders.failures l.folders ≡ g.F.Folders.failures l.initial.folders;
  uuids : (t : Tree) → g.F.Folders.tree l.initial.folders ≡ Some t
      → l.uuids.items ≡ l.initial.uuids.items ++ uuids_of_stream t l.folder (map key_of (take l.archive-index l.archives)) (key_of l.stream);
}
