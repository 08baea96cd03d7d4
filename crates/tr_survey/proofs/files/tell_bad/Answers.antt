use Rattle.tr_survey.proofs.PrefixLemmas.{at_err}
use Rattle.tr_survey.proofs.files.tell_bad.Goals as goal

pub returns-in_err-tell_cause-in_default-clause-err : goal.returns-in_err-tell_cause-in_default-clause-err
returns-in_err-tell_cause-in_default-clause-err g c =
    at_err c.from_residual.result (λ from. (c.in_default.not-Short, c.in_err-tell_cause-in_default.ensures.err from))

pub returns-in_ok-tell_cause-in_default-clause-ok : goal.returns-in_ok-tell_cause-in_default-clause-ok
returns-in_ok-tell_cause-in_default-clause-ok g c from = (c.in_default.not-Short, c.in_ok-tell_cause-in_default.ensures.ok from)
