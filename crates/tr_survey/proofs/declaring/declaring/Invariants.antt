use Rattle.std.proofs.Common.{◌≡◌, drop, map}
use Rattle.tr_survey.specs.Declaring.{declaring}
use Rattle.tr_survey.specs.Listing.{key_of}
use Rattle.tr_survey.proofs.declaring.declaring.Given as goal

abbrev pub invariant-loop-at : goal.invariant-loop-at
invariant-loop-at l = declaring l.uuid (map key_of (drop l.at l.archives)) (drop l.at l.namings) ≡ declaring l.uuid (map key_of l.archives) l.namings
