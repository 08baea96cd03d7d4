use Rattle.tr_survey.proofs.FileNameLemmas.{file_is_of_stream}
use Rattle.tr_survey.proofs.laws.a_file_is_named_for_its_stream.Goals as goal

pub returns : goal.returns
returns c = file_is_of_stream
