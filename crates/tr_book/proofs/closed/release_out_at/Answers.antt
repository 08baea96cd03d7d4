use Rattle.std.proofs.Common.{length, refl}
use Rattle.std.proofs.lemmas.Option.{slice_get_read}
use Rattle.tr_book.proofs.ChangeLemmas.{changed_at-set}
use Rattle.tr_book.proofs.closed.release_out_at.Goals as goal
use Rattle.tr_book.specs.Parts.{release}

pub returns-clause-ok : goal.returns-clause-ok
returns-clause-ok g c =
    let xs = c.args.parts.now.items in
    let at = slice_get_read xs (length xs) c.args.k c.index_mut.result.now refl c.requires.within c.index_mut.ensures.value in
    changed_at-set release c.args.k xs c.index_mut.result.now c.release_out.new.self at c.in_ok-texts.ensures.ok
