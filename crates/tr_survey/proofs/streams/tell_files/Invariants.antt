use Rattle.std.proofs.Common.{◌≡◌, Some, length, drop, map}
use Rattle.tr_folders.specs.Tree.{Tree}
use Rattle.tr_survey.specs.Listing.{key_of}
use Rattle.tr_survey.specs.Prefix.{GoesOn}
use Rattle.tr_survey.specs.Streams.{files_told}
use Rattle.tr_survey.proofs.SumLemmas.{sums_from}
use Rattle.tr_survey.proofs.streams.tell_files.Given as goal

abbrev pub invariant-loop-at : goal.invariant-loop-at
invariant-loop-at g l = record {
  room : length l.buffer ≡ length l.initial.buffer;
  len : length l.sums ≡ length l.initial.sums;
  tree : g.F.Folders.tree l.folders ≡ g.F.Folders.tree l.initial.folders;
  reads : g.F.Folders.failures l.folders ≡ g.F.Folders.failures l.initial.folders;
  writes : g.K.ByteSink.failures l.sink ≡ g.K.ByteSink.failures l.initial.sink;
  goes : (t : Tree) → g.F.Folders.tree l.initial.folders ≡ Some t
      → GoesOn (files_told t l.folder l.trace (key_of l.stream) l.initial.tally (map key_of l.archives))
      (files_told t l.folder l.trace (key_of l.stream) l.tally (map key_of (drop l.at l.archives)))
      (g.K.ByteSink.taken l.initial.sink) (g.K.ByteSink.taken l.sink);
  sums : (t : Tree) → g.F.Folders.tree l.initial.folders ≡ Some t
      → sums_from t l.folder l.trace (key_of l.stream) l.tally l.archives l.sums l.at
      ≡ sums_from t l.folder l.trace (key_of l.stream) l.initial.tally l.archives l.initial.sums 0;
}
