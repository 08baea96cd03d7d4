use Rattle.std.proofs.Common.{◌≡◌, ◌<◌, ◌≤◌, Some, length}
use Rattle.tr_folders.specs.Tree.{File}
use Rattle.tr_folders.specs.declared.folders.TheConstants.{MOST_BYTES}
use Rattle.tr_survey.specs.Listing.{key_of}
use Rattle.tr_survey.specs.Steps.{AreFew}
use Rattle.tr_survey.specs.Streams.{file_told, place_of}
use Rattle.tr_survey.proofs.TellLemmas.{ReadSoFar}
use Rattle.tr_survey.proofs.files.tell_file.Given as goal

abbrev pub invariant-pieces : goal.invariant-pieces
invariant-pieces g l = record {
  room : length l.buffer ≡ length l.initial.buffer;
  each : l.counter ≤ g.F.Folders.given l.folders;
  fewer : 0 < l.counter → g.F.Folders.given l.folders < MOST_BYTES;
  tree : g.F.Folders.tree l.folders ≡ g.F.Folders.tree l.initial.folders;
  reads : g.F.Folders.failures l.folders ≡ g.F.Folders.failures l.initial.folders;
  writes : g.K.ByteSink.failures l.sink ≡ g.K.ByteSink.failures l.initial.sink;
  few : AreFew l.held.items;
  so_far : (file : File) → g.F.Folders.left l.initial.folders ≡ Some file
      → ReadSoFar (file_told (place_of l.trace l.stream (key_of l.archive)) l.initial.tally (Some file)) (place_of l.trace l.stream (key_of l.archive)) file.breaks
      (g.K.ByteSink.taken l.initial.sink) (g.K.ByteSink.taken l.sink) (g.F.Folders.left l.folders) l.tally l.offset l.held.items;
}
