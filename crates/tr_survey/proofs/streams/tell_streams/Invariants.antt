use Rattle.std.proofs.Common.{◌≡◌, Some, length, drop, map}
use Rattle.tr_folders.specs.Tree.{Tree}
use Rattle.tr_survey.specs.Listing.{key_of}
use Rattle.tr_survey.specs.Prefix.{GoesOn}
use Rattle.tr_survey.specs.Streams.{streams_told}
use Rattle.tr_survey.specs.Sums.{sums_after_streams}
use Rattle.tr_survey.proofs.streams.tell_streams.Given as goal

abbrev pub invariant-loop-stream : goal.invariant-loop-stream
invariant-loop-stream g l = record {
  room : length l.buffer ≡ length l.initial.buffer;
  len : length l.sums ≡ length l.initial.sums;
  tree : g.F.Folders.tree l.folders ≡ g.F.Folders.tree l.initial.folders;
  reads : g.F.Folders.failures l.folders ≡ g.F.Folders.failures l.initial.folders;
  writes : g.K.ByteSink.failures l.sink ≡ g.K.ByteSink.failures l.initial.sink;
  goes : (t : Tree) → g.F.Folders.tree l.initial.folders ≡ Some t
      → GoesOn (streams_told t l.folder l.trace (map key_of l.archives) l.faults (map key_of l.streams))
      (streams_told t l.folder l.trace (map key_of l.archives) l.count (map key_of (drop l.stream-index l.streams)))
      (g.K.ByteSink.taken l.initial.sink) (g.K.ByteSink.taken l.sink);
  sums : (t : Tree) → g.F.Folders.tree l.initial.folders ≡ Some t
      → sums_after_streams t l.folder l.trace (map key_of l.archives) l.count (map key_of (drop l.stream-index l.streams)) l.sums
      ≡ sums_after_streams t l.folder l.trace (map key_of l.archives) l.faults (map key_of l.streams) l.initial.sums;
}
