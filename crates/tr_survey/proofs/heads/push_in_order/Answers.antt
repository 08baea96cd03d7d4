use Rattle.std.proofs.Common.{◌≤◌, length, arith}
use Rattle.tr_folders.specs.Tree.{by_text}
use Rattle.tr_survey.proofs.HeadLemmas.{order_end, order_step, pushed, pushed_all}
use Rattle.tr_survey.proofs.heads.push_in_order.Goals as goal

pub loop-at-preserved : goal.loop-at-preserved
loop-at-preserved c =
    let i = c.loop-at.at in
    let some : 1 ≤ i = omega arith in
    pushed _ (by_text c.push_between.new.lines.items) _ _ _ _ c.in_ok-push_between.ensures
    (order_step c.args.archives.now i c.index-archives-at.result c.index-archives-at-in-loop-at.result some c.loop-at-test.true
    c.index-archives-at.is c.index-archives-at-in-loop-at.is)
    c.loop-at.invariant

pub returns : goal.returns
returns c =
    let past : length c.args.archives.now ≤ c.loop-at.at = omega arith in
    pushed_all (by_text c.loop-at.lines.items) _ _ (order_end c.args.archives.now c.loop-at.at past) c.loop-at.invariant
