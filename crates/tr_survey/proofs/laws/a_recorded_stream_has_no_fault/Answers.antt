use Rattle.tr_survey.proofs.WholeLemmas.{no_fault_more, recorded_stream}
use Rattle.tr_survey.proofs.laws.a_recorded_stream_has_no_fault.Goals as goal

pub returns-clause-told : goal.returns-clause-told
returns-clause-told c = recorded_stream

pub returns-clause-none : goal.returns-clause-none
returns-clause-none c = no_fault_more
