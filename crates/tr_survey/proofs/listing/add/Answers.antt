use Rattle.std.proofs.Common.{refl, ap, ◌∙◌, map}
use Rattle.tr_survey.specs.Listing.{key_of}
use Rattle.tr_survey.specs.Order.{number_cmp}
use Rattle.tr_survey.proofs.ListingLemmas.{map-insert_key}
use Rattle.tr_survey.proofs.listing.add.Goals as goal

pub returns : goal.returns
returns c = ap (map key_of) c.in_ok-insert.ensures.keys ∙ map-insert_key key_of _ number_cmp (λ x y. refl) c.args.found.now.keys c.args.one
