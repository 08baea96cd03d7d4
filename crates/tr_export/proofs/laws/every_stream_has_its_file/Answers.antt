use Rattle.std.proofs.Common.{◌∙◌, ap, sym}
use Rattle.tr_export.proofs.FileLemmas.{in-archive}
use Rattle.tr_export.proofs.laws.every_stream_has_its_file.Goals as goal
use Rattle.tr_session_book.specs.Book.{SessionBookState}

pub returns : goal.returns
returns g c = λ folder k archive at within.
    in-archive folder k c.args.i c.args.session.now c.archives.result.now archive c.in-Some.field-0.now
    (c.archives.ensures.value ∙ ap (λ (b : SessionBookState). b.archives) c.book.ensures)
    c.archives.ensures.numbered at (sym c.in-Some.ensures.value) c.in-Some.ensures.is c.in-Some.ensures.archived
