use Rattle.std.proofs.Common.{◌≡◌, ◌++◌, Some, drop, length, map, take}
use Rattle.std.specs.List.{filter_map}
use Rattle.tr_folders.specs.Tree.{Tree}
use Rattle.tr_describe.specs.Answers.{archive_wrong, first_of}
use Rattle.tr_describe.specs.Homes.{metadata_in, seen}
use Rattle.tr_survey.specs.Listing.{key_of}
use Rattle.tr_metadata.specs.declared.metadata.TheConstants.{LONGEST_METADATA}
use Rattle.tr_describe.proofs.archives.judge_archives.Given as goal

abbrev pub invariant-loop-archive : goal.invariant-loop-archive
invariant-loop-archive g l = record {
  room : length l.buffer ≡ LONGEST_METADATA;
  tree : g.F.Folders.tree l.folders ≡ g.F.Folders.tree l.initial.folders;
  failures : g.F.Folders.failures l.folders ≡ g.F.Folders.failures l.initial.folders;
  wrong : (t : Tree) → g.F.Folders.tree l.initial.folders ≡ Some t
      → first_of (archive_wrong t l.session.events.now l.session.name.now l.session.folder.now) (map key_of l.archives)
      ≡ first_of (archive_wrong t l.session.events.now l.session.name.now l.session.folder.now) (map key_of (drop l.archive-index l.archives));
  found : (t : Tree) → g.F.Folders.tree l.initial.folders ≡ Some t
      → map seen l.found.items
      ≡ map seen l.initial.found.items ++ filter_map (metadata_in t l.session.folder.now) (map key_of (take l.archive-index l.archives));
}
