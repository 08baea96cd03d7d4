use Rattle.std.proofs.Common.{◌≡◌, ◌<◌, ◌≤◌, Some, length}
use Rattle.tr_describe.specs.Steps.{AreFew}
use Rattle.tr_describe.proofs.ReadLemmas.{ReadSoFar}
use Rattle.tr_folders.specs.Tree.{File}
use Rattle.tr_folders.specs.declared.folders.TheConstants.{MOST_BYTES}
use Rattle.tr_describe.proofs.files.judge_file.Given as goal

abbrev pub invariant-pieces : goal.invariant-pieces
invariant-pieces g l = record {
  room : length l.buffer ≡ length l.initial.buffer;
  each : l.counter ≤ g.F.Folders.given l.folders;
  fewer : 0 < l.counter → g.F.Folders.given l.folders < MOST_BYTES;
  tree : g.F.Folders.tree l.folders ≡ g.F.Folders.tree l.initial.folders;
  reads : g.F.Folders.failures l.folders ≡ g.F.Folders.failures l.initial.folders;
  few : AreFew l.held.items;
  so_far : (file : File) → g.F.Folders.left l.initial.folders ≡ Some file
      → ReadSoFar l.rule.events.now l.rule.uuid.now l.rule.stream file (g.F.Folders.left l.folders) l.held.items;
}
