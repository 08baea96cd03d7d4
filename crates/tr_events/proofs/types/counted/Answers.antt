use Rattle.std.specs.Option.{option_map}
use Rattle.std.proofs.Common.{ap, ◌∙◌, lit<}
use Rattle.tr_events.proofs.ListLemmas.{no_end, none_counted}
use Rattle.tr_events.proofs.types.counted.Goals as goal

pub returns-in_err-strip_suffix : goal.returns-in_err-strip_suffix
returns-in_err-strip_suffix c =
    ap (option_map _) c.from_residual-in_err-strip_suffix.ensures
    ∙ none_counted c.args.word.now c.args.rest.now (no_end 93 c.args.rest.now (lit< tt) (λ front e. c.in_err-strip_suffix.ensures.cases front e))
