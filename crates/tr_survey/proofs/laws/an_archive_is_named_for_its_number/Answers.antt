use Rattle.tr_survey.proofs.StampLemmas.{archive_is_of_number}
use Rattle.tr_survey.proofs.laws.an_archive_is_named_for_its_number.Goals as goal

pub returns : goal.returns
returns c = archive_is_of_number
