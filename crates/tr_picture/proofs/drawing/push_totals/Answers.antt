use Rattle.std.proofs.Common.{◌∙◌, ◌++◌, ℕ, ap}
use Rattle.std.proofs.lemmas.Result.{on_ok_weaker}
use Rattle.tr_picture.proofs.PageLemmas.{before, put}
use Rattle.std.specs.Prelude.{codes}
use Rattle.tr_survey.specs.Streams.{lost_by}
use Rattle.tr_picture.specs.Drawing.{counted_text, totals_front}
use Rattle.tr_picture.proofs.drawing.push_totals.Goals as goal

pub returns : goal.returns
returns c =
    on_ok_weaker c.push-4.result
    (λ last.
    before c.args.page.now.items c.push.new.page.items c.push-4.new.page.items (totals_front c.args.y c.args.tally.now.packets c.args.tally.now.records) (counted_text (codes "tr") c.args.tally.now.absent (codes "absent") ++ (counted_text (codes "to") (lost_by c.args.tally.now.last) (codes "lost") ++ codes "</text>\n"))
    (put c.args.page.now.items c.push.new.page.items c.as_str.result.now (totals_front c.args.y c.args.tally.now.packets c.args.tally.now.records) c.in_ok-push.ensures (c.as_str.ensures.value ∙ c.in_ok-front.ensures))
    (before c.push.new.page.items c.push-2.new.page.items c.push-4.new.page.items (counted_text (codes "tr") c.args.tally.now.absent (codes "absent")) (counted_text (codes "to") (lost_by c.args.tally.now.last) (codes "lost") ++ codes "</text>\n")
    (put c.push.new.page.items c.push-2.new.page.items c.as_str-2.result.now (counted_text (codes "tr") c.args.tally.now.absent (codes "absent")) c.in_ok-push-2.ensures (c.as_str-2.ensures.value ∙ c.in_ok-absent.ensures))
    (before c.push-2.new.page.items c.push-3.new.page.items c.push-4.new.page.items (counted_text (codes "to") (lost_by c.args.tally.now.last) (codes "lost")) (codes "</text>\n")
    (put c.push-2.new.page.items c.push-3.new.page.items c.as_str-3.result.now (counted_text (codes "to") (lost_by c.args.tally.now.last) (codes "lost")) c.in_ok-push-3.ensures (c.as_str-3.ensures.value ∙ c.in_ok-lost.ensures ∙ ap (λ (n : ℕ). counted_text (codes "to") n (codes "lost")) c.lost_by-discarded.ensures))
    last)))
    c.push-4.ensures
