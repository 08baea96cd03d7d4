use Rattle.tr_recorded.proofs.LaterLemmas.{clear-all-later, cleared-some-later, events-later, held-up-later, later-further, next-later, release-all-later, released-some-later, rotate-later, schedule-later, snapshot-later, start-later, stop-later, tick-later}
use Rattle.tr_recorded.proofs.laws.every_later_session.Goals as goal

pub returns-clause-events : goal.returns-clause-events
returns-clause-events g c s events = events-later events s

pub returns-clause-further : goal.returns-clause-further
returns-clause-further g c = later-further

pub returns-clause-start : goal.returns-clause-start
returns-clause-start g c s moment = start-later moment s

pub returns-clause-stop : goal.returns-clause-stop
returns-clause-stop g c = stop-later

pub returns-clause-rotate : goal.returns-clause-rotate
returns-clause-rotate g c s moment = rotate-later moment s

pub returns-clause-next : goal.returns-clause-next
returns-clause-next g c = next-later

pub returns-clause-held_up : goal.returns-clause-held_up
returns-clause-held_up g c s u moment = held-up-later moment s u

pub returns-clause-tick : goal.returns-clause-tick
returns-clause-tick g c s now = tick-later now s

pub returns-clause-clear : goal.returns-clause-clear
returns-clause-clear g c = clear-all-later

pub returns-clause-cleared_some : goal.returns-clause-cleared_some
returns-clause-cleared_some g c = cleared-some-later

pub returns-clause-release : goal.returns-clause-release
returns-clause-release g c s k = release-all-later k s

pub returns-clause-released_some : goal.returns-clause-released_some
returns-clause-released_some g c s u k = released-some-later k s u

pub returns-clause-schedule : goal.returns-clause-schedule
returns-clause-schedule g c s schedule = schedule-later schedule s

pub returns-clause-snapshot : goal.returns-clause-snapshot
returns-clause-snapshot g c s moment = snapshot-later moment s
