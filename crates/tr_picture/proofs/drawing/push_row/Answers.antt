use Rattle.std.proofs.Common.{◌∙◌, ◌++◌, None, ap}
use Rattle.std.proofs.lemmas.Result.{on_ok_weaker}
use Rattle.std.specs.Prelude.{codes}
use Rattle.tr_picture.proofs.PageLemmas.{before, put}
use Rattle.tr_picture.specs.Counts.{counts_text}
use Rattle.tr_picture.specs.Drawing.{bars_text, losses_text, row_front}
use Rattle.tr_picture.specs.Lanes.{bars_of}
use Rattle.tr_picture.specs.declared.counts.Counted.TheVariants.{Absent, Discarded}
use Rattle.tr_picture.proofs.drawing.push_row.Goals as goal

pub returns : goal.returns
returns c =
    let f = c.args.frame.now in
    let packets = bars_of c.args.row.now.packets in
    let losses = bars_of c.args.row.now.losses in
    let end = codes "</g>\n" in
    let discarded = counts_text Discarded f 0 losses in
    let absent = counts_text Absent f 0 packets in
    let page = c.args.page.now.items in
    let one = c.push.new.page.items in
    let two = c.push_bars.new.page.items in
    let three = c.push_losses.new.page.items in
    let four = c.push_counts.new.page.items in
    let five = c.push_counts-2.new.page.items in
    let after = c.push-2.new.page.items in
    on_ok_weaker c.push-2.result
    (λ last.
    before page one after (row_front c.args.y) (bars_text f None packets ++ (losses_text f losses ++ (absent ++ (discarded ++ end))))
    (put page one c.as_str.result.now (row_front c.args.y) c.in_ok-push.ensures (c.as_str.ensures.value ∙ c.in_ok-front.ensures))
    (before one two after (bars_text f None packets) (losses_text f losses ++ (absent ++ (discarded ++ end)))
    (put one two (bars_text f None c.deref.result.now) (bars_text f None packets) c.in_ok-push_bars.ensures
    (ap (bars_text f None) (c.deref.ensures.value ∙ c.in_ok-packets.ensures)))
    (before two three after (losses_text f losses) (absent ++ (discarded ++ end))
    (put two three (losses_text f c.deref-2.result.now) (losses_text f losses) c.in_ok-push_losses.ensures
    (ap (losses_text f) (c.deref-2.ensures.value ∙ c.in_ok-losses.ensures)))
    (before three four after absent (discarded ++ end)
    (put three four (counts_text Absent f 0 c.deref-3.result.now) absent c.in_ok-push_counts.ensures
    (ap (counts_text Absent f 0) (c.deref-3.ensures.value ∙ c.in_ok-packets.ensures)))
    (before four five after discarded end
    (put four five (counts_text Discarded f 0 c.deref-4.result.now) discarded c.in_ok-push_counts-2.ensures
    (ap (counts_text Discarded f 0) (c.deref-4.ensures.value ∙ c.in_ok-losses.ensures)))
    last)))))
    c.push-2.ensures
