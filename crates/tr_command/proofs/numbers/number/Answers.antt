use Rattle.std.proofs.Common.{◌∙◌, sym}
use Rattle.tr_command.proofs.NumberLemmas.{number_of-none, number_of-plus, number_of-read}
use Rattle.tr_command.proofs.numbers.number.Goals as goal

pub returns-then-begins_with_plus-clause-value : goal.returns-then-begins_with_plus-clause-value
returns-then-begins_with_plus-clause-value c =
    number_of-plus c.args.most c.args.text.now (sym c.begins_with_plus.ensures ∙ c.if-begins_with_plus.true)

pub returns-in-Ok-clause-value : goal.returns-in-Ok-clause-value
returns-in-Ok-clause-value c =
    let read = c.in-Ok.ensures.value.0 in
    number_of-read c.args.most c.args.text.now c.in-Ok.n (sym c.begins_with_plus.ensures ∙ c.if-begins_with_plus.false)
    read.0.0 read.1 c.if-n-most.true

pub returns-in_default-2-clause-value : goal.returns-in_default-2-clause-value
returns-in_default-2-clause-value c =
    number_of-none c.args.most c.args.text.now c.ranges.most.fits (sym c.begins_with_plus.ensures ∙ c.if-begins_with_plus.false)
    c.in_default.ensures.value.0
