use Rattle.tr_chunk.specs.Reading.{pieces_fed}
use Rattle.tr_chunk.proofs.FeedsLemmas.{ReadUpTo}
use Rattle.tr_chunk.proofs.feeds.audit_feeds.Given as goal

abbrev pub invariant-loop-at : goal.invariant-loop-at
invariant-loop-at g l = ReadUpTo l.initial.reader.uuid l.initial.reader.stream l.reader (pieces_fed l.pieces) l.at
