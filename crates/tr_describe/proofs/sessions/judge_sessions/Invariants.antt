use Rattle.std.proofs.Common.{◌≡◌, ◌++◌, Some, drop, map, take}
use Rattle.std.specs.List.{flat_map}
use Rattle.tr_folders.specs.Tree.{Tree, by_text}
use Rattle.tr_describe.specs.Answers.{first_of, session_wrong}
use Rattle.tr_describe.specs.Homes.{metadata_of_session, seen}
use Rattle.tr_describe.proofs.sessions.judge_sessions.Given as goal

abbrev pub invariant-loop-session : goal.invariant-loop-session
invariant-loop-session g l = record {
  tree : g.F.Folders.tree l.folders ≡ g.F.Folders.tree l.initial.folders;
  failures : g.F.Folders.failures l.folders ≡ g.F.Folders.failures l.initial.folders;
  wrong : (t : Tree) → g.F.Folders.tree l.initial.folders ≡ Some t
      → first_of (session_wrong t l.events l.dir) (by_text l.sessions)
      ≡ first_of (session_wrong t l.events l.dir) (by_text (drop l.session-index l.sessions));
  found : (t : Tree) → g.F.Folders.tree l.initial.folders ≡ Some t
      → map seen l.found.items
      ≡ map seen l.initial.found.items ++ flat_map (metadata_of_session t l.dir) (by_text (take l.session-index l.sessions));
}
