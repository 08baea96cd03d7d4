use Rattle.std.proofs.Common.{◌≡◌, Some, take}
use Rattle.std.specs.Prelude.{filter}
use Rattle.tr_folders.specs.Tree.{Tree, by_text}
use Rattle.tr_survey.specs.Sessions.{is_session}
use Rattle.tr_describe.proofs.sessions.sessions_among.Given as goal

abbrev pub invariant-loop-name : goal.invariant-loop-name
invariant-loop-name g l = record {
  tree : g.F.Folders.tree l.folders ≡ g.F.Folders.tree l.initial.folders;
  failures : g.F.Folders.failures l.folders ≡ g.F.Folders.failures l.initial.folders;
  sessions : (t : Tree) → g.F.Folders.tree l.initial.folders ≡ Some t
      → by_text l.found.items ≡ filter (is_session t l.dir) (by_text (take l.name-index l.names));
}
