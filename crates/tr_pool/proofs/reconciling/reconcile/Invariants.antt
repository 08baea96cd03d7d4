use Rattle.std.proofs.Common.{◌≡◌, take}
use Rattle.tr_pool.specs.Logs.{AgreeBelow, report_of}
use Rattle.tr_pool.proofs.ReportLemmas.{IsSmall}
use Rattle.tr_pool.proofs.reconciling.reconcile.Given as goal

-- the first streams agree, and these are their sums
abbrev pub invariant-streams : goal.invariant-streams
invariant-streams l =
    AgreeBelow l.logs l.settled.streams l.i
    × (l.report ≡ report_of (take l.i l.settled.streams))
    × IsSmall l.i l.report
