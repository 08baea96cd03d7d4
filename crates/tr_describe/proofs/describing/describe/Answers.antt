use Rattle.std.proofs.Common.{◌∙◌, ℕ, sym}
use Rattle.tr_describe.proofs.AnswerLemmas.{not_too_much, reads_same, writes_same}
use Rattle.tr_describe.proofs.describing.describe.Goals as goal

pub returns-in-Err-clause-writes : goal.returns-in-Err-clause-writes
returns-in-Err-clause-writes g c =
    sym (c.in-Err.ensures.writes (g.T.Texts.failures c.args.texts.now)) ∙ writes_same ℕ ℕ c.in-Err.fault c.fault_of.result _ c.fault_of.ensures

pub returns-in-Err-put_found-clause-too_much : goal.returns-in-Err-put_found-clause-too_much
returns-in-Err-put_found-clause-too_much g c too_much =
    absurd (not_too_much ℕ c.in-Err-put_found.fault c.fault_of-in-Err-put_found.result c.fault_of-in-Err-put_found.ensures c.in-Err-put_found.ensures.reads too_much)

pub returns-in-Err-put_found-clause-reads : goal.returns-in-Err-put_found-clause-reads
returns-in-Err-put_found-clause-reads g c =
    c.in-Ok.ensures.reads ∙ sym (c.in-Err-put_found.ensures.reads (g.F.Folders.failures c.args.folders.now))
    ∙ reads_same ℕ ℕ c.in-Err-put_found.fault c.fault_of-in-Err-put_found.result _ c.fault_of-in-Err-put_found.ensures
