use Rattle.std.proofs.Common.{lit<}
use Rattle.tr_events.proofs.ListLemmas.{no_end, none_labelled}
use Rattle.tr_events.proofs.types.labelled.Goals as goal

pub returns-in_default-strip_suffix : goal.returns-in_default-strip_suffix
returns-in_default-strip_suffix c =
    none_labelled c.args.word.now c.args.rest.now (no_end 125 c.args.rest.now (lit< tt) (λ front e. c.in_default-strip_suffix.ensures.cases front e))
