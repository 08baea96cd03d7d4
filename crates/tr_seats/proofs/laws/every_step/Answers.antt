use Rattle.tr_seats.proofs.laws.every_step.Goals as goal
use Rattle.tr_stream.proofs.ClearLemmas.{clears}
use Rattle.tr_stream.proofs.CutLemmas.{cuts, snaps}
use Rattle.tr_stream.proofs.OfferLemmas.{offers}
use Rattle.tr_stream.proofs.Refinement.{stands-switched}
use Rattle.tr_stream.proofs.TakeLemmas.{takes}

pub returns-clause-offer : goal.returns-clause-offer
returns-clause-offer c s h moment id payload kept stands = offers s h moment id payload kept.sound.made stands

pub returns-clause-take : goal.returns-clause-take
returns-clause-take c = takes

pub returns-clause-cut : goal.returns-clause-cut
returns-clause-cut c = cuts

pub returns-clause-clear : goal.returns-clause-clear
returns-clause-clear c = clears

pub returns-clause-switch : goal.returns-clause-switch
returns-clause-switch c = stands-switched

pub returns-clause-look : goal.returns-clause-look
returns-clause-look c = snaps
