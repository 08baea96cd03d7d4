use Rattle.std.proofs.Common.{◌∙◌, ap, Err, arith}
use Rattle.std.proofs.lemmas.Grind.{common_steps}
use Rattle.std.proofs.lemmas.Result.{err_from_is_err_and}
use Rattle.tr_export.proofs.MakingLemmas.{each_more, each_cut, OnErr-always, failed_since}
use Rattle.tr_export.specs.Archives.{archive_made}
use Rattle.tr_export.proofs.writing.write_archives.Goals as goal
use Rattle.tr_session_book.specs.Book.{SessionBookState}

pub archives-preserved : goal.archives-preserved
archives-preserved g c = record {
  made =
      each_more (archive_made c.args.dir.now c.args.name.now c.args.session.now) (g.D.Disk.made c.args.disk.now)
      (g.D.Disk.made c.archives.disk) (g.D.Disk.made c.write_archive.new.disk)
      c.archives-archive-items.result.now c.args.session.now.book.archives c.archives.archive-index c.archive-item.result
      (c.archives-archive-items.ensures.value ∙ ap (λ (b : SessionBookState). b.archives) c.book.ensures)
      c.archives-test.true c.archive-item.is c.archives.invariant.made c.in_ok-write_archive.ensures.ok;
  works = λ n e. c.in_ok-write_archive.ensures.failures n (c.archives.invariant.works n e);
}

pub returns-in_err-write_archive-clause-err : goal.returns-in_err-write_archive-clause-err
returns-in_err-write_archive-clause-err g c =
    OnErr-always c.from_residual.result (
    each_cut (archive_made c.args.dir.now c.args.name.now c.args.session.now) (g.D.Disk.made c.args.disk.now)
    (g.D.Disk.made c.archives.disk) (g.D.Disk.made c.write_archive.new.disk)
    c.archives-archive-items.result.now c.args.session.now.book.archives c.archives.archive-index c.archive-item.result
    (c.archives-archive-items.ensures.value ∙ ap (λ (b : SessionBookState). b.archives) c.book.ensures) c.archives-test.true
    c.archive-item.is c.archives.invariant.made c.in_err-write_archive.ensures.err
    )

pub returns-in_err-write_archive-clause-failures : goal.returns-in_err-write_archive-clause-failures
returns-in_err-write_archive-clause-failures g c =
    let p = err_from_is_err_and c.from_residual.result c.from_residual.ensures.1 in
    rw (p.1, p.2) (failed_since (g.D.Disk.failures c.args.disk.now) (g.D.Disk.failures c.archives.disk)
    (g.D.Disk.failures c.write_archive.new.disk) (Err c.in_err-write_archive.field-0.0) c.archives.invariant.works
    c.in_err-write_archive.ensures.failures)

pub returns-clause-ok : goal.returns-clause-ok
returns-clause-ok g c = grind (arith, common_steps)
