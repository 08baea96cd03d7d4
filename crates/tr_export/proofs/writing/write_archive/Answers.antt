use Rattle.std.proofs.Common.{◌≡◌, ◌∙◌, refl, ap, sym, arith, rules}
use Rattle.std.proofs.lemmas.Grind.{common_steps}
use Rattle.std.proofs.lemmas.Result.{on_ok_weaker, on_err_weaker}
use Rattle.tr_chunk.specs.ArchiveName.{archive_name_text}
use Rattle.tr_export.proofs.ArchiveLemmas.{archive_whole, archive_cut}
use Rattle.tr_export.proofs.MakingLemmas.{front_none, OnErr-always}
use Rattle.tr_export.specs.Archives.{archive_made}
use Rattle.tr_export.specs.Paths.{folder_of}
use Rattle.tr_export.proofs.writing.write_archive.Goals as goal
use Rattle.tr_session.specs.Sizes.{archive_released}
use Rattle.tr_session_book.specs.Book.{SessionBookState}
use Rattle.tr_stream.specs.Rules.{by_state}

pub returns-in_err-own_name-clause-err : goal.returns-in_err-own_name-clause-err
returns-in_err-own_name-clause-err g c =
    OnErr-always c.from_residual.result
    (front_none (g.D.Disk.made c.args.disk.now) (g.D.Disk.made c.args.disk.now)
    (archive_made c.args.dir.now c.args.name.now c.args.session.now c.args.archive) refl)

pub returns-in_err-folder-clause-err : goal.returns-in_err-folder-clause-err
returns-in_err-folder-clause-err g c =
    OnErr-always c.from_residual-in_err-folder.result
    (front_none (g.D.Disk.made c.args.disk.now) (g.D.Disk.made c.args.disk.now)
    (archive_made c.args.dir.now c.args.name.now c.args.session.now c.args.archive) refl)

pub returns-clause-ok : goal.returns-clause-ok
returns-clause-ok g c =
    let a = c.args.archive in
    let offset_is : c.offset-offset.result ≡ c.args.session.now.book.offset =
    c.offset-offset.ensures ∙ ap (λ (b : SessionBookState). b.offset) c.book.ensures in
    let name_is : c.as_str.result.now ≡ archive_name_text a.begin a.end c.args.session.now.book.offset a.id =
    c.as_str.ensures.value ∙ (rw (← offset_is) c.in_ok-own_name.ensures) in
    let folder_is : c.as_str-2.result.now
    ≡ folder_of c.args.dir.now c.args.name.now (archive_name_text a.begin a.end c.args.session.now.book.offset a.id) =
    c.as_str-2.ensures.value ∙ (rw (← name_is) c.in_ok-folder.ensures) in
    let none : c.archive_size-size.result.released ≡ 0 = search rules in
    let held : archive_released by_state a.id c.args.session.now ≡ 0 = sym c.archive_size-size.ensures.released ∙ none in
    on_ok_weaker c.write_chunk.result
    (archive_whole c.args.dir.now c.args.name.now c.args.session.now a (g.D.Disk.made c.args.disk.now)
    (g.D.Disk.made c.write_chunk.new.disk) c.as_str-2.result.now held folder_is) c.write_chunk.ensures.ok

pub returns-clause-err : goal.returns-clause-err
returns-clause-err g c =
    let a = c.args.archive in
    let offset_is : c.offset-offset.result ≡ c.args.session.now.book.offset =
    c.offset-offset.ensures ∙ ap (λ (b : SessionBookState). b.offset) c.book.ensures in
    let name_is : c.as_str.result.now ≡ archive_name_text a.begin a.end c.args.session.now.book.offset a.id =
    c.as_str.ensures.value ∙ (rw (← offset_is) c.in_ok-own_name.ensures) in
    let folder_is : c.as_str-2.result.now
    ≡ folder_of c.args.dir.now c.args.name.now (archive_name_text a.begin a.end c.args.session.now.book.offset a.id) =
    c.as_str-2.ensures.value ∙ (rw (← name_is) c.in_ok-folder.ensures) in
    let none : c.archive_size-size.result.released ≡ 0 = search rules in
    let held : archive_released by_state a.id c.args.session.now ≡ 0 = sym c.archive_size-size.ensures.released ∙ none in
    on_err_weaker c.write_chunk.result
    (archive_cut c.args.dir.now c.args.name.now c.args.session.now a (g.D.Disk.made c.args.disk.now)
    (g.D.Disk.made c.write_chunk.new.disk) c.as_str-2.result.now held folder_is) c.write_chunk.ensures.err

pub returns-in_err-folder-clause-ok : goal.returns-in_err-folder-clause-ok
returns-in_err-folder-clause-ok g c = grind (arith, common_steps)
