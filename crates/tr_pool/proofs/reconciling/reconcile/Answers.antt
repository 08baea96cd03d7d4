use Rattle.std.proofs.Common.{rules, ◌≡◌, ◌+◌, take, Some, ap, sym, ◌∙◌, subst, arith}
use Rattle.std.proofs.lemmas.Grind.{common_steps}
use Rattle.std.specs.Prelude.{slice_get}
use Rattle.tr_pool.specs.Logs.{Agrees, report_of}
use Rattle.tr_pool.specs.Reports.{with_counts}
use Rattle.tr_pool.proofs.ReportLemmas.{AreCounts, IsSmall, agree-more, reports-more, small-more}
use Rattle.tr_stream.specs.Calls.{state_counts}
use Rattle.tr_pool.proofs.reconciling.reconcile.Goals as goal

pub streams-preserved : goal.streams-preserved
streams-preserved c =
    let streams = c.args.settled.now.streams in let s = c.in-Some.stream.now in
    let at : slice_get streams c.streams.i ≡ Some s = search rules in
    let agrees : Agrees c.args.logs.now c.streams.i s = c.in_ok-reconcile_stream.ensures.ok in
    let counts : c.counts.result ≡ state_counts s = c.counts.ensures.value in
    let more : c.with-report.result ≡ with_counts c.streams.report c.counts.result = c.with-report.ensures in
    let are : AreCounts c.counts.result = search rules in
    let total : with_counts c.streams.report c.counts.result ≡ report_of (take (c.streams.i + 1) streams) =
    ap (λ r. with_counts r c.counts.result) c.streams.invariant.1 ∙ ap (λ n. with_counts (report_of (take c.streams.i streams)) n) counts ∙ reports-more c.streams.i streams s at in (
      agree-more c.args.logs.now streams c.streams.i s at c.streams.invariant.0 agrees,
      more ∙ total,
      subst (λ r. IsSmall (c.streams.i + 1) r) (sym more) (small-more c.streams.i c.streams.report c.counts.result c.streams.invariant.2 are),
    )

pub returns-clause-report : goal.returns-clause-report
returns-clause-report c = grind (arith, common_steps)
