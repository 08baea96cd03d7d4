use Rattle.std.proofs.Common.{◌≡◌, Some, drop, map}
use Rattle.std.specs.List.{filter_map}
use Rattle.tr_survey.specs.Listing.{archive_at, archives_of, key_of, with_keys}
use Rattle.tr_folders.specs.Tree.{Tree, by_text}
use Rattle.tr_survey.proofs.listing.archives_among.Given as goal

abbrev pub invariant-loop-name : goal.invariant-loop-name
invariant-loop-name g l = record {
  tree : g.F.Folders.tree l.folders ≡ g.F.Folders.tree l.initial.folders;
  failures : g.F.Folders.failures l.folders ≡ g.F.Folders.failures l.initial.folders;
  found : (t : Tree) → g.F.Folders.tree l.initial.folders ≡ Some t
      → with_keys (map key_of l.found.keys) (filter_map (archive_at t l.folder) (by_text (drop l.name-index l.names)))
      ≡ archives_of t l.folder (by_text l.names);
}
