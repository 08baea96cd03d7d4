use Rattle.std.proofs.Common.{◌∙◌}
use Rattle.tr_survey.proofs.MetadataLemmas.{found_in_line, last_line, not_in_line}
use Rattle.tr_survey.proofs.naming.uuid_in.Goals as goal

pub returns-in-Some-uuid_in_line : goal.returns-in-Some-uuid_in_line
returns-in-Some-uuid_in_line c =
    found_in_line _ _ _ _ c.in-Some.ensures c.split_at.ensures.front c.in-Some-uuid_in_line.ensures ∙ c.loop-end.invariant

pub loop-end-preserved : goal.loop-end-preserved
loop-end-preserved c =
    not_in_line _ _ _ _ _ c.in-Some.ensures c.split_at.ensures.front c.split_at.ensures.back c.split_at-in-Some.ensures.back
    c.in_default-uuid_in_line.ensures ∙ c.loop-end.invariant

pub returns : goal.returns
returns c = c.uuid_in_line-2.ensures ∙ last_line c.loop-end.rest.now c.in_default.ensures ∙ c.loop-end.invariant
