use Rattle.std.proofs.Common.{sym}
use Rattle.tr_events.proofs.NumberLemmas.{digits_are_text, number_of-none, without_leading_plus-digits}
use Rattle.tr_events.proofs.numbers.number_in.Goals as goal

pub returns-in_default : goal.returns-in_default
returns-in_default c = absurd (c.in_default.ensures.cases.0 (digits_are_text c.args.bytes.now (sym c.if-not-are_digits.ensures)))

pub returns-in-Err : goal.returns-in-Err
returns-in-Err c =
    let digits = sym c.if-not-are_digits.ensures in
    let refused = c.in-Err.ensures.value.0 in
    number_of-none c.args.bytes.now digits
    (rw (c.in-Ok.ensures.cases.0, without_leading_plus-digits c.args.bytes.now digits) at refused)
