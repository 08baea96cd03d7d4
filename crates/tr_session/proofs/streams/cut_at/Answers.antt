use Rattle.std.proofs.Common.{◌∙◌, Some, ap, sym, length, refl}
use Rattle.std.proofs.lemmas.Option.{slice_get_read}
use Rattle.std.specs.Prelude.{option_map}
use Rattle.tr_book.proofs.ChangeLemmas.{changed_at-set}
use Rattle.tr_session.proofs.streams.cut_at.Goals as goal
use Rattle.tr_stream.specs.StateSteps.{state_cut_answer, state_after_cut}

pub returns-clause-value : goal.returns-clause-value
returns-clause-value g c = λ not_memory.
    let xs = c.args.streams.now.items in
    let at = slice_get_read xs (length xs) c.args.i c.index_mut.result.now refl c.requires c.index_mut.ensures.value in
    let did = c.cut.ensures.value not_memory in (
      ap (option_map (state_cut_answer c.args.moment)) at ∙ ap (λ r. Some r) (sym did.0),
      changed_at-set (state_after_cut c.args.moment) c.args.i xs c.index_mut.result.now c.cut.new.self at did.1,
    )
