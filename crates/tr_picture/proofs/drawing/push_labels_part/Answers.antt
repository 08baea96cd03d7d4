use Rattle.std.proofs.Common.{◌∙◌, ◌++◌, ap}
use Rattle.std.proofs.lemmas.Result.{on_ok_weaker}
use Rattle.tr_picture.proofs.PageLemmas.{before, put}
use Rattle.std.specs.Prelude.{codes}
use Rattle.std.proofs.Common.{length, map}
use Rattle.tr_picture.specs.Sessions.{seen}
use Rattle.tr_picture.specs.Drawing.{labels_text, part_text, rows_height}
use Rattle.tr_picture.proofs.drawing.push_labels_part.Goals as goal

pub returns : goal.returns
returns c =
    on_ok_weaker c.push-2.result
    (λ last.
    before c.args.page.now.items c.push.new.page.items c.push-2.new.page.items (part_text 0 156 (rows_height (length (map seen c.args.lines.now)))) (labels_text 11 (map seen c.args.lines.now) ++ codes "</svg>")
    (put c.args.page.now.items c.push.new.page.items c.as_str.result.now (part_text 0 156 (rows_height (length (map seen c.args.lines.now)))) c.in_ok-push.ensures (c.as_str.ensures.value ∙ c.in_ok-part.ensures ∙ ap (part_text 0 156) c.height_of_lines-height.ensures))
    (before c.push.new.page.items c.push_labels.new.page.items c.push-2.new.page.items (labels_text 11 (map seen c.args.lines.now)) (codes "</svg>")
    c.in_ok-push_labels.ensures
    last))
    c.push-2.ensures
