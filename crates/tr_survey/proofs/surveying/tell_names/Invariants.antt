use Rattle.std.proofs.Common.{◌≡◌, None, Some, length, drop}
use Rattle.tr_folders.specs.Tree.{Tree, by_text}
use Rattle.tr_survey.specs.Prefix.{GoesOn}
use Rattle.tr_survey.specs.Sessions.{names_told}
use Rattle.tr_survey.proofs.surveying.tell_names.Given as goal

abbrev pub invariant-loop-name : goal.invariant-loop-name
invariant-loop-name g l = record {
  room : length l.buffer ≡ length l.initial.buffer;
  tree : g.F.Folders.tree l.folders ≡ g.F.Folders.tree l.initial.folders;
  reads : g.F.Folders.failures l.folders ≡ g.F.Folders.failures l.initial.folders;
  writes : g.K.ByteSink.failures l.sink ≡ g.K.ByteSink.failures l.initial.sink;
  goes : (t : Tree) → g.F.Folders.tree l.initial.folders ≡ Some t
      → GoesOn (names_told l.asked t l.dir None (by_text l.names)) (names_told l.asked t l.dir l.faults (by_text (drop l.name-index l.names)))
      (g.K.ByteSink.taken l.initial.sink) (g.K.ByteSink.taken l.sink);
}
