use Rattle.std.proofs.Common.{◌≡◌, Some, length, map, take}
use Rattle.tr_survey.specs.Listing.{key_of}
use Rattle.tr_survey.specs.Sessions.{namings_of}
use Rattle.tr_folders.specs.Tree.{Tree}
use Rattle.tr_metadata.specs.declared.metadata.TheConstants.{LONGEST_METADATA}
use Rattle.tr_survey.proofs.sessions.namings_of.Given as goal

abbrev pub invariant-loop-archive : goal.invariant-loop-archive
invariant-loop-archive g l = record {
  room : length l.buffer ≡ LONGEST_METADATA;
  tree : g.F.Folders.tree l.folders ≡ g.F.Folders.tree l.initial.folders;
  failures : g.F.Folders.failures l.folders ≡ g.F.Folders.failures l.initial.folders;
  len : length l.namings.items ≡ l.archive-index;
  namings : (t : Tree) → g.F.Folders.tree l.initial.folders ≡ Some t
      → l.namings.items ≡ namings_of t l.folder (map key_of (take l.archive-index l.archives));
}
