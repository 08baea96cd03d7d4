use Rattle.tr_shared.proofs.FeedLemmas.{fed-logs, fed-offers}
use Rattle.tr_shared.proofs.laws.every_feed.Goals as goal

pub returns-clause-offers : goal.returns-clause-offers
returns-clause-offers c = fed-offers

pub returns-clause-logs : goal.returns-clause-logs
returns-clause-logs c = fed-logs
