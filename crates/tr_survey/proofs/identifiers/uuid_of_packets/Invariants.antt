use Rattle.std.proofs.Common.{◌≡◌, Some, map, take}
use Rattle.std.specs.List.{flat_map}
use Rattle.tr_folders.specs.Tree.{Tree}
use Rattle.tr_survey.specs.Identifiers.{uuids_of_stream}
use Rattle.tr_survey.specs.Listing.{key_of}
use Rattle.tr_survey.proofs.identifiers.uuid_of_packets.Given as goal

abbrev pub invariant-loop-stream : goal.invariant-loop-stream
invariant-loop-stream g l = record {
  tree : g.F.Folders.tree l.folders ≡ g.F.Folders.tree l.initial.folders;
  failures : g.F.Folders.failures l.folders ≡ g.F.Folders.failures l.initial.folders;
  uuids : (t : Tree) → g.F.Folders.tree l.initial.folders ≡ Some t
      → l.uuids.items ≡ flat_map (uuids_of_stream t l.folder (map key_of l.archives)) (map key_of (take l.stream-index l.streams));
}
