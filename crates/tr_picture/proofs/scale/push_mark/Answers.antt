use Rattle.std.proofs.Common.{◌∙◌, ◌++◌}
use Rattle.std.proofs.lemmas.Result.{on_ok_weaker}
use Rattle.tr_picture.proofs.PageLemmas.{before, put}
use Rattle.std.proofs.Common.{◌+◌, ◌*◌, ◌/◌}
use Rattle.tr_picture.specs.Drawing.{elapsed_text, mark_end, mark_front}
use Rattle.tr_picture.proofs.scale.push_mark.Goals as goal

pub returns : goal.returns
returns c =
    on_ok_weaker c.push-3.result
    (λ last.
    before c.args.page.now.items c.push.new.page.items c.push-3.new.page.items (mark_front (160 + 200 * c.args.quarters)) (elapsed_text c.args.span (c.args.span / 4 * c.args.quarters) ++ mark_end (160 + 200 * c.args.quarters))
    (put c.args.page.now.items c.push.new.page.items c.as_str.result.now (mark_front (160 + 200 * c.args.quarters)) c.in_ok-push.ensures (c.as_str.ensures.value ∙ c.in_ok-front.ensures))
    (before c.push.new.page.items c.push-2.new.page.items c.push-3.new.page.items (elapsed_text c.args.span (c.args.span / 4 * c.args.quarters)) (mark_end (160 + 200 * c.args.quarters))
    (put c.push.new.page.items c.push-2.new.page.items c.as_str-2.result.now (elapsed_text c.args.span (c.args.span / 4 * c.args.quarters)) c.in_ok-push-2.ensures (c.as_str-2.ensures.value ∙ c.in_ok-elapsed.ensures))
    (put c.push-2.new.page.items c.push-3.new.page.items c.as_str-3.result.now (mark_end (160 + 200 * c.args.quarters)) last (c.as_str-3.ensures.value ∙ c.in_ok-end.ensures))))
    c.push-3.ensures
