use Rattle.std.proofs.Common.{sym, ap, ◌∙◌}
use Rattle.tr_events.specs.Numbers.{number_of}
use Rattle.tr_survey.proofs.NameLemmas.{both_there, named_at, named_none, no_name, no_number, refused, taken}
use Rattle.tr_survey.proofs.names.stream_parts.Goals as goal

pub returns-in_default : goal.returns-in_default
returns-in_default c = named_none c.args.name.now c.in_default.ensures.cases

pub returns-then-is_none : goal.returns-then-is_none
returns-then-is_none c =
    no_name c.in-Some.channel.now c.in-Some.digits.now (refused c.new.result c.is_none.result _ c.new.ensures.succeeds.1 c.is_none.ensures c.if-is_none.true)
    ∙ sym (named_at _ _ _ c.in-Some.ensures.cases)

pub returns-in-None : goal.returns-in-None
returns-in-None c =
    no_number c.in-Some.channel.now c.in-Some.digits.now (c.in-None.ensures ∙ ap number_of c.as_bytes.ensures.value)
    ∙ sym (named_at _ _ _ c.in-Some.ensures.cases)

pub returns-in-Some-number_in : goal.returns-in-Some-number_in
returns-in-Some-number_in c =
    both_there c.in-Some.channel.now c.in-Some.digits.now c.in-Some-number_in.number
    (taken c.new.result c.is_none.result _ c.new.ensures.succeeds.0 c.is_none.ensures c.if-is_none.false)
    (c.in-Some-number_in.ensures ∙ ap number_of c.as_bytes.ensures.value)
    ∙ sym (named_at _ _ _ c.in-Some.ensures.cases)
