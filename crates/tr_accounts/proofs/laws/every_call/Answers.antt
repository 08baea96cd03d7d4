use Rattle.std.proofs.Common.{refl}
use Rattle.tr_accounts.proofs.AccountLemmas.{accounts-release}
use Rattle.tr_accounts.proofs.JournalLemmas.{journal-clear, journal-cut, journal-look, journal-new, journal-offer, journal-switch, journal-take}
use Rattle.tr_accounts.specs.Seats.{desk_seat, producer_seat}
use Rattle.tr_accounts.proofs.laws.every_call.Goals as goal

pub returns-clause-new : goal.returns-clause-new
returns-clause-new c = journal-new

pub returns-clause-offer : goal.returns-clause-offer
returns-clause-offer c lines s moment id payload was kept = journal-offer lines s was producer_seat moment id payload _ refl kept refl

pub returns-clause-take : goal.returns-clause-take
returns-clause-take c lines s who was drainer = journal-take lines s was who _ drainer refl

pub returns-clause-cut : goal.returns-clause-cut
returns-clause-cut c lines s moment was = journal-cut lines s was desk_seat moment _ refl refl

pub returns-clause-clear : goal.returns-clause-clear
returns-clause-clear c lines s was = journal-clear lines s was desk_seat _ refl refl

pub returns-clause-switch : goal.returns-clause-switch
returns-clause-switch c lines s active was = journal-switch lines s was desk_seat active refl

pub returns-clause-look : goal.returns-clause-look
returns-clause-look c lines s moment was = journal-look lines s was desk_seat moment _ refl refl

pub returns-clause-release : goal.returns-clause-release
returns-clause-release c steps s k was = accounts-release steps s was k
