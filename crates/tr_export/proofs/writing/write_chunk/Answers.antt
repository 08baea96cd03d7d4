use Rattle.std.proofs.Common.{◌∙◌, ap, refl}
use Rattle.std.proofs.lemmas.Result.{on_ok_weaker, on_err_weaker}
use Rattle.tr_export.proofs.ArchiveLemmas.{chunk_whole, chunk_cut, files_cut}
use Rattle.tr_export.proofs.MakingLemmas.{front_none, OnErr-always}
use Rattle.tr_export.specs.Archives.{chunk_made}
use Rattle.tr_export.proofs.writing.write_chunk.Goals as goal
use Rattle.tr_metadata.specs.Metadata.{metadata_with}
use Rattle.tr_session_book.specs.Book.{SessionBookState}

pub returns-clause-ok : goal.returns-clause-ok
returns-clause-ok g c =
    on_ok_weaker c.write_file.result (
    chunk_whole c.args.folder.now c.args.id c.args.session.now (g.D.Disk.made c.args.disk.now)
    (g.D.Disk.made c.make_folder.new.self) (g.D.Disk.made c.write_streams.new.disk)
    (g.D.Disk.made c.write_file.new.disk) c.as_str.result.now
    (metadata_with c.events.result.now c.uuid-uuid.result)
    (c.as_str.ensures.value ∙ c.in_ok-metadata.ensures)
    (λ j. metadata_with ((c.events.ensures ∙ ap (λ (b : SessionBookState). b.events) c.book-book.ensures) j)
    ((c.uuid-uuid.ensures ∙ ap (λ (b : SessionBookState). b.uuid) c.book-book.ensures) j))
    c.in_ok-make_folder.ensures.ok c.in_ok-write_streams.ensures.ok
    ) c.write_file.ensures.ok

pub returns-clause-err : goal.returns-clause-err
returns-clause-err g c =
    on_err_weaker c.write_file.result (
    chunk_cut c.args.folder.now c.args.id c.args.session.now (g.D.Disk.made c.args.disk.now)
    (g.D.Disk.made c.make_folder.new.self) (g.D.Disk.made c.write_streams.new.disk)
    (g.D.Disk.made c.write_file.new.disk) c.as_str.result.now
    (metadata_with c.events.result.now c.uuid-uuid.result)
    (c.as_str.ensures.value ∙ c.in_ok-metadata.ensures)
    (λ j. metadata_with ((c.events.ensures ∙ ap (λ (b : SessionBookState). b.events) c.book-book.ensures) j)
    ((c.uuid-uuid.ensures ∙ ap (λ (b : SessionBookState). b.uuid) c.book-book.ensures) j))
    c.in_ok-make_folder.ensures.ok c.in_ok-write_streams.ensures.ok
    ) c.write_file.ensures.err

pub returns-in_err-metadata-clause-err : goal.returns-in_err-metadata-clause-err
returns-in_err-metadata-clause-err g c =
    OnErr-always c.from_residual.result
    (front_none (g.D.Disk.made c.args.disk.now) (g.D.Disk.made c.args.disk.now)
    (chunk_made c.args.folder.now c.args.id c.args.session.now) refl)

pub returns-in_err-make_folder-clause-err : goal.returns-in_err-make_folder-clause-err
returns-in_err-make_folder-clause-err g c =
    OnErr-always c.from_residual-in_err-make_folder.result (
    front_none (g.D.Disk.made c.args.disk.now) (g.D.Disk.made c.make_folder.new.self)
    (chunk_made c.args.folder.now c.args.id c.args.session.now) c.in_err-make_folder.ensures.err
    )

pub returns-in_err-write_streams-clause-err : goal.returns-in_err-write_streams-clause-err
returns-in_err-write_streams-clause-err g c =
    OnErr-always c.from_residual-in_err-write_streams.result (
    files_cut c.args.folder.now c.args.id c.args.session.now (g.D.Disk.made c.args.disk.now)
    (g.D.Disk.made c.make_folder.new.self) (g.D.Disk.made c.write_streams.new.disk)
    c.in_ok-make_folder.ensures.ok c.in_err-write_streams.ensures.err
    )
