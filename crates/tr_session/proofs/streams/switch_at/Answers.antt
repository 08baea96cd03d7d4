use Rattle.std.proofs.Common.{length, refl}
use Rattle.std.proofs.lemmas.Option.{slice_get_read}
use Rattle.tr_book.proofs.ChangeLemmas.{changed_at-set}
use Rattle.tr_session.proofs.streams.switch_at.Goals as goal
use Rattle.tr_stream.specs.StateSteps.{state_after_switch}

pub returns : goal.returns
returns g c =
    let xs = c.args.streams.now.items in
    let at = slice_get_read xs (length xs) c.args.i c.index_mut.result.now refl c.requires c.index_mut.ensures.value in
    changed_at-set (state_after_switch c.args.active) c.args.i xs c.index_mut.result.now c.set_active.new.self at c.set_active.ensures.value
