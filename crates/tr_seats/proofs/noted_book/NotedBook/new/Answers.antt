use Rattle.tr_seats.proofs.OperatorLemmas.{journal-planned}
use Rattle.tr_seats.proofs.noted_book.NotedBook.new.Goals as goal

pub invariant_of-result : goal.invariant_of-result
invariant_of-result g c =
    journal-planned g.N.Names.plan c.args.book c.args.journal c.args.streams.items c.requires.journal.0 c.requires.journal.1 c.requires.journal.2 c.requires.book
    c.requires.streams
