use Rattle.std.proofs.Common.{Err, arith}
use Rattle.std.proofs.lemmas.Grind.{common_steps}
use Rattle.std.proofs.lemmas.Result.{err_from_is_err_and}
use Rattle.tr_export.proofs.ArchiveLemmas.{streams_cut}
use Rattle.tr_export.proofs.MakingLemmas.{OnErr-always, failed_since}
use Rattle.tr_export.proofs.writing.write_streams.Goals as goal

pub returns-in_err-write_stream-clause-err : goal.returns-in_err-write_stream-clause-err
returns-in_err-write_stream-clause-err g c =
    OnErr-always c.from_residual.result (
    streams_cut c.args.folder.now c.args.id c.args.session.now (g.D.Disk.made c.args.disk.now)
    (g.D.Disk.made c.streams.disk) (g.D.Disk.made c.write_stream.new.disk) c.streams.i c.streams-i-end.result
    c.streams-test.true c.streams-i-end.ensures.value c.streams.invariant.made c.in_err-write_stream.ensures.err
    )

pub returns-in_err-write_stream-clause-failures : goal.returns-in_err-write_stream-clause-failures
returns-in_err-write_stream-clause-failures g c =
    let p = err_from_is_err_and c.from_residual.result c.from_residual.ensures.1 in
    rw (p.1, p.2) (failed_since (g.D.Disk.failures c.args.disk.now) (g.D.Disk.failures c.streams.disk)
    (g.D.Disk.failures c.write_stream.new.disk) (Err c.in_err-write_stream.field-0.0) c.streams.invariant.works
    c.in_err-write_stream.ensures.failures)

pub streams-preserved : goal.streams-preserved
streams-preserved g c = grind (arith, common_steps)
