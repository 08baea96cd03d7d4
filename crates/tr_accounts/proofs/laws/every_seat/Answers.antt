use Rattle.tr_accounts.proofs.JournalLemmas.{journal-holds}
use Rattle.tr_accounts.proofs.SeatLemmas.{offers-theirs, operations-theirs, takes-all}
use Rattle.tr_accounts.proofs.laws.every_seat.Goals as goal

pub returns-clause-offers : goal.returns-clause-offers
returns-clause-offers c lines s was = offers-theirs lines was.theirs

pub returns-clause-holds : goal.returns-clause-holds
returns-clause-holds c = journal-holds

pub returns-clause-operations : goal.returns-clause-operations
returns-clause-operations c lines s was = operations-theirs lines was.theirs

pub returns-clause-takes : goal.returns-clause-takes
returns-clause-takes c journal seat s was is whole = takes-all journal.made journal.lines _ was.theirs is whole
