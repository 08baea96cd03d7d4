use Rattle.std.proofs.Common.{◌≡◌, Some, drop, map}
use Rattle.std.specs.List.{flat_map}
use Rattle.tr_survey.specs.Listing.{key_of, streams_at, streams_of, with_keys}
use Rattle.tr_folders.specs.Tree.{Tree}
use Rattle.tr_survey.proofs.listing.streams_among.Given as goal

abbrev pub invariant-loop-archive : goal.invariant-loop-archive
invariant-loop-archive g l = record {
  tree : g.F.Folders.tree l.folders ≡ g.F.Folders.tree l.initial.folders;
  failures : g.F.Folders.failures l.folders ≡ g.F.Folders.failures l.initial.folders;
  found : (t : Tree) → g.F.Folders.tree l.initial.folders ≡ Some t
      → with_keys (map key_of l.found.keys) (flat_map (streams_at t l.folder) (map key_of (drop l.archive-index l.archives)))
      ≡ streams_of t l.folder (map key_of l.archives);
}
