use Rattle.std.proofs.Common.{◌∙◌, subst}
use Rattle.tr_survey.specs.Listing.{IsListing}
use Rattle.tr_survey.specs.declared.listing.Listing.{Listing}
use Rattle.tr_survey.proofs.SurveyLemmas.{there_closed, there_none, there_open}
use Rattle.tr_survey.proofs.surveying.has_archives.Goals as goal

pub returns-in-Absent-clause-is : goal.returns-in-Absent-clause-is
returns-in-Absent-clause-is g c t known =
    there_none t c.args.dir.now c.args.name.now c.as_str.result.now (c.as_str.ensures.value ∙ c.in_ok-folder.ensures)
    (subst (λ (l : Listing). IsListing t c.as_str.result.now l) c.in-Absent.is (c.in_ok-listing_at.ensures.is t known))

pub returns-in-Unreadable-clause-is : goal.returns-in-Unreadable-clause-is
returns-in-Unreadable-clause-is g c t known =
    there_closed t c.args.dir.now c.args.name.now c.as_str.result.now (c.as_str.ensures.value ∙ c.in_ok-folder.ensures)
    (subst (λ (l : Listing). IsListing t c.as_str.result.now l) c.in-Unreadable.is (c.in_ok-listing_at.ensures.is t known))

pub returns-clause-is : goal.returns-clause-is
returns-clause-is g c t known =
    let is = subst (λ (l : Listing). IsListing t c.as_str.result.now l) c.in-Names.is (c.in_ok-listing_at.ensures.is t known) in
    there_open t c.args.dir.now c.args.name.now c.as_str.result.now _ (c.as_str.ensures.value ∙ c.in_ok-folder.ensures) is.0 is.1
