use Rattle.std.specs.String.{string_bytes}
use Rattle.std.proofs.Common.{sym, ◌∙◌}
use Rattle.std.proofs.lemmas.Result.{on_ok_weaker}
use Rattle.tr_metadata.proofs.ClassLemmas.{sequence_written}
use Rattle.tr_metadata.proofs.classes.push_field.Goals as goal

pub returns-in-Sequence : goal.returns-in-Sequence
returns-in-Sequence g c =
    on_ok_weaker c.push_sequence.result
    (λ e. sequence_written c.args.field.now c.in-Sequence.number c.name-name.result.now c.number_word-in-Sequence.result.now
    (string_bytes c.args.text.now) (string_bytes c.push_sequence.new.text) (sym c.layout.ensures ∙ c.in-Sequence.is) c.name-name.ensures
    c.number_word-in-Sequence.ensures e)
    c.push_sequence.ensures
