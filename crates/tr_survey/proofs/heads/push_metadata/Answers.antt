use Rattle.std.proofs.Common.{◌≤◌, ◌<◌, length, arith}
use Rattle.std.specs.Option.{option_copied}
use Rattle.tr_folders.specs.Tree.{by_text}
use Rattle.tr_survey.proofs.HeadLemmas.{metadata_end, metadata_step, pushed, pushed_all}
use Rattle.tr_survey.proofs.heads.push_metadata.Goals as goal

pub loop-at-preserved : goal.loop-at-preserved
loop-at-preserved c =
    let i = c.loop-at.at in
    let fits : i < length c.args.namings.now = omega arith in
    pushed _ (by_text c.push_wrong.new.lines.items) _ _ _ _ c.in_ok-push_wrong.ensures
    (metadata_step (option_copied c.args.uuid) c.args.archives.now c.args.namings.now i c.index-archives-at.result c.index-namings-at.result
    c.loop-at-test.true fits c.index-archives-at.is c.index-namings-at.is)
    c.loop-at.invariant

pub returns : goal.returns
returns c =
    let past : length c.args.archives.now ≤ c.loop-at.at = omega arith in
    pushed_all (by_text c.loop-at.lines.items) _ _ (metadata_end (option_copied c.args.uuid) c.args.archives.now c.args.namings.now c.loop-at.at past) c.loop-at.invariant
