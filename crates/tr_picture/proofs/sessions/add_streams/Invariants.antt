use Rattle.std.proofs.Common.{◌≡◌, ◌++◌, Some, drop, length, map}
use Rattle.tr_folders.specs.Tree.{Tree}
use Rattle.tr_picture.specs.Sessions.{line_of, seen}
use Rattle.tr_survey.specs.Listing.{key_of}
use Rattle.tr_picture.proofs.sessions.add_streams.Given as goal

abbrev pub invariant-loop-stream : goal.invariant-loop-stream
invariant-loop-stream g l = record {
  room : length l.buffer ≡ length l.initial.buffer;
  tree : g.F.Folders.tree l.folders ≡ g.F.Folders.tree l.initial.folders;
  failures : g.F.Folders.failures l.folders ≡ g.F.Folders.failures l.initial.folders;
  found : (t : Tree) → g.F.Folders.tree l.initial.folders ≡ Some t
      → map seen l.found.items
      ++ map (line_of l.frame t l.session l.folder l.uuid (map key_of l.archives)) (map key_of (drop l.stream-index l.streams))
      ≡ map seen l.initial.found.items
      ++ map (line_of l.frame t l.session l.folder l.uuid (map key_of l.archives)) (map key_of l.streams);
}
