use Rattle.std.proofs.Common.{subst, sym, Err}
use Rattle.tr_describe.specs.Telling.{FailedSo}
use Rattle.tr_describe.specs.declared.faults.DescribeFault.{DescribeFault}
use Rattle.tr_describe.proofs.TellingLemmas.{failed_reading}
use Rattle.tr_describe.proofs.telling.describe_by.Goals as goal

pub returns-in-Err-clause-failures : goal.returns-in-Err-clause-failures
returns-in-Err-clause-failures g c =
    subst (λ (f : DescribeFault). FailedSo (Err f) (g.T.Texts.failures c.args.texts.now) (g.T.Texts.failures c.args.texts.now)
    (g.K.ByteSink.failures c.args.out.now) (g.K.ByteSink.failures c.args.out.now))
    (sym c.fault_of.ensures) (failed_reading c.in-Err.fault _ _ c.in-Err.ensures.writes)
