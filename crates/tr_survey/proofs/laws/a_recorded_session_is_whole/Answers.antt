use Rattle.tr_survey.proofs.SessionLemmas.{whole_is}
use Rattle.tr_survey.proofs.laws.a_recorded_session_is_whole.Goals as goal

pub returns : goal.returns
returns c = whole_is
