use Rattle.tr_chunk.proofs.FeedsLemmas.{FedUpTo}
use Rattle.tr_chunk.proofs.feeds.feed_all.Given as goal

abbrev pub invariant-loop-at : goal.invariant-loop-at
invariant-loop-at g l = FedUpTo l.initial.reader l.reader l.feeds l.at
