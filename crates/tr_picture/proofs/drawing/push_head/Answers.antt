use Rattle.std.proofs.Common.{◌∙◌, ◌++◌, ℕ, ap}
use Rattle.std.proofs.lemmas.Result.{on_ok_weaker}
use Rattle.std.specs.Prelude.{codes}
use Rattle.tr_picture.proofs.PageLemmas.{before, put}
use Rattle.tr_picture.specs.Drawing.{back_text, faults_text, front_text, full_height, style_text}
use Rattle.tr_picture.proofs.drawing.push_head.Goals as goal

pub returns : goal.returns
returns c =
    let rows = c.args.rows in
    let height = full_height rows in
    let page = c.args.page.now.items in
    let one = c.push.new.page.items in
    let two = c.push-2.new.page.items in
    let three = c.push-3.new.page.items in
    let four = c.push-4.new.page.items in
    let after = c.push-5.new.page.items in
    let counted = faults_text c.args.faults c.args.placed in
    let end = codes "</text>\n" in
    on_ok_weaker c.push-5.result
    (λ last.
    before page one after (front_text height) (style_text ++ (back_text height rows ++ (counted ++ end)))
    (put page one c.as_str.result.now (front_text height) c.in_ok-push.ensures
    (c.as_str.ensures.value ∙ c.in_ok-front.ensures ∙ ap front_text c.full_height-height.ensures))
    (before one two after style_text (back_text height rows ++ (counted ++ end)) c.in_ok-push-2.ensures
    (before two three after (back_text height rows) (counted ++ end)
    (put two three c.as_str-2.result.now (back_text height rows) c.in_ok-push-3.ensures
    (c.as_str-2.ensures.value ∙ c.in_ok-back.ensures ∙ ap (λ (h : ℕ). back_text h rows) c.full_height-height.ensures))
    (before three four after counted end
    (put three four c.as_str-3.result.now counted c.in_ok-push-4.ensures (c.as_str-3.ensures.value ∙ c.in_ok-counted.ensures))
    last))))
    c.push-5.ensures
