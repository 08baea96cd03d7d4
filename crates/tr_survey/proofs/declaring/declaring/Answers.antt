use Rattle.std.proofs.Common.{◌<◌, ◌∙◌, length, sym, arith}
use Rattle.tr_survey.proofs.DeclaringLemmas.{passed_over}
use Rattle.tr_survey.proofs.declaring.declaring.Goals as goal

pub loop-at-preserved : goal.loop-at-preserved
loop-at-preserved c =
    let fits : c.loop-at.at < length c.args.namings.now = omega (arith, c.loop-at-test.true, c.requires) in
    sym (passed_over c.args.uuid.now c.args.archives.now c.args.namings.now c.loop-at.at c.index-namings-at.result c.loop-at-test.true fits
    c.index-namings-at.is (sym c.is_named.ensures ∙ c.if-is_named.false))
    ∙ c.loop-at.invariant
