use Rattle.std.proofs.Common.{◌≡◌, subst, sym, Err}
use Rattle.tr_describe.specs.Failures.{writes_after}
use Rattle.tr_describe.specs.declared.declarations.Declarations.{Declarations}
use Rattle.tr_describe.specs.declared.faults.DescribeFault.{DescribeFault}
use Rattle.tr_describe.proofs.TellingLemmas.{still_written}
use Rattle.tr_describe.proofs.telling.declarations_told.Goals as goal

pub returns-in-Err-clause-writes : goal.returns-in-Err-clause-writes
returns-in-Err-clause-writes g c =
    sym (subst (λ (f : DescribeFault). writes_after {R = Declarations} (Err f) (g.K.ByteSink.failures c.args.out.now) ≡ g.K.ByteSink.failures c.args.out.now)
    (sym c.fault_of.ensures) (still_written c.in-Err.fault (g.K.ByteSink.failures c.args.out.now) c.in-Err.ensures.writes))
