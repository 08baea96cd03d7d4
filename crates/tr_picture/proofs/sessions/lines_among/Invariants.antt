use Rattle.std.proofs.Common.{◌≡◌, ◌++◌, Some, drop, length, map}
use Rattle.std.specs.List.{flat_map}
use Rattle.tr_folders.specs.Tree.{Tree, by_text}
use Rattle.tr_metadata.specs.declared.metadata.TheConstants.{LONGEST_METADATA}
use Rattle.tr_picture.specs.Sessions.{name_lines, seen}
use Rattle.tr_picture.proofs.sessions.lines_among.Given as goal

abbrev pub invariant-loop-name : goal.invariant-loop-name
invariant-loop-name g l = record {
  room : length l.buffer ≡ LONGEST_METADATA;
  tree : g.F.Folders.tree l.folders ≡ g.F.Folders.tree l.initial.folders;
  failures : g.F.Folders.failures l.folders ≡ g.F.Folders.failures l.initial.folders;
  found : (t : Tree) → g.F.Folders.tree l.initial.folders ≡ Some t
      → map seen l.found.items ++ flat_map (name_lines l.frame t l.dir) (by_text (drop l.name-index l.names))
      ≡ flat_map (name_lines l.frame t l.dir) (by_text l.names);
}
