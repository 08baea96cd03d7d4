use Rattle.std.proofs.Common.{◌≤◌, ◌++◌, ℕ, length, map, drop, ap, ◌+◌, ◌∙◌, arith}
use Rattle.tr_folders.specs.Tree.{by_text}
use Rattle.tr_survey.specs.Heads.{wrong_streams}
use Rattle.tr_survey.specs.Listing.{key_of}
use Rattle.tr_survey.proofs.HeadLemmas.{pushed, pushed_all, streams_end, streams_step}
use Rattle.tr_survey.proofs.heads.push_streams.Goals as goal

pub loop-stream-preserved : goal.loop-stream-preserved
loop-stream-preserved c =
    let i = c.loop-stream.stream-index in
    ap (λ (n : ℕ). by_text c.push_below.new.lines.items ++ wrong_streams n (map key_of (drop (i + 1) c.args.streams.now))) c.saturating_add-next.ensures
    ∙ pushed _ (by_text c.push_below.new.lines.items) _ _ _ _ c.in_ok-push_below.ensures
    (streams_step c.args.streams.now c.loop-stream.next i c.stream-item.result c.loop-stream-test.true c.stream-item.is)
    c.loop-stream.invariant

pub returns : goal.returns
returns c =
    let past : length c.args.streams.now ≤ c.loop-stream.stream-index = omega arith in
    pushed_all (by_text c.loop-stream.lines.items) _ _ (streams_end c.args.streams.now c.loop-stream.next c.loop-stream.stream-index past) c.loop-stream.invariant
