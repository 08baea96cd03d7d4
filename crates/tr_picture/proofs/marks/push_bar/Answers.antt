use Rattle.std.proofs.Common.{◌∙◌, ◌++◌}
use Rattle.std.proofs.lemmas.Result.{on_ok_weaker}
use Rattle.tr_picture.proofs.PageLemmas.{before, put}
use Rattle.std.specs.Prelude.{codes}
use Rattle.tr_picture.specs.Drawing.{absent_path, packets_path, packets_title, place_text}
use Rattle.tr_picture.proofs.marks.push_bar.Goals as goal

pub returns : goal.returns
returns c =
    on_ok_weaker c.push-7.result
    (λ last.
    before c.args.page.now.items c.push.new.page.items c.push-7.new.page.items (codes "<g>") (packets_title c.args.bar.now ++ (place_text c.args.bar.now ++ (codes "</title>" ++ (packets_path c.args.frame.now c.args.bar.now ++ (absent_path c.args.frame.now c.args.bar.now ++ codes "</g>")))))
    c.in_ok-push.ensures
    (before c.push.new.page.items c.push-2.new.page.items c.push-7.new.page.items (packets_title c.args.bar.now) (place_text c.args.bar.now ++ (codes "</title>" ++ (packets_path c.args.frame.now c.args.bar.now ++ (absent_path c.args.frame.now c.args.bar.now ++ codes "</g>"))))
    (put c.push.new.page.items c.push-2.new.page.items c.as_str.result.now (packets_title c.args.bar.now) c.in_ok-push-2.ensures (c.as_str.ensures.value ∙ c.in_ok-title.ensures))
    (before c.push-2.new.page.items c.push-3.new.page.items c.push-7.new.page.items (place_text c.args.bar.now) (codes "</title>" ++ (packets_path c.args.frame.now c.args.bar.now ++ (absent_path c.args.frame.now c.args.bar.now ++ codes "</g>")))
    (put c.push-2.new.page.items c.push-3.new.page.items c.as_str-2.result.now (place_text c.args.bar.now) c.in_ok-push-3.ensures (c.as_str-2.ensures.value ∙ c.in_ok-place.ensures))
    (before c.push-3.new.page.items c.push-4.new.page.items c.push-7.new.page.items (codes "</title>") (packets_path c.args.frame.now c.args.bar.now ++ (absent_path c.args.frame.now c.args.bar.now ++ codes "</g>"))
    c.in_ok-push-4.ensures
    (before c.push-4.new.page.items c.push-5.new.page.items c.push-7.new.page.items (packets_path c.args.frame.now c.args.bar.now) (absent_path c.args.frame.now c.args.bar.now ++ codes "</g>")
    (put c.push-4.new.page.items c.push-5.new.page.items c.as_str-3.result.now (packets_path c.args.frame.now c.args.bar.now) c.in_ok-push-5.ensures (c.as_str-3.ensures.value ∙ c.in_ok-packets.ensures))
    (before c.push-5.new.page.items c.push-6.new.page.items c.push-7.new.page.items (absent_path c.args.frame.now c.args.bar.now) (codes "</g>")
    (put c.push-5.new.page.items c.push-6.new.page.items c.as_str-4.result.now (absent_path c.args.frame.now c.args.bar.now) c.in_ok-push-6.ensures (c.as_str-4.ensures.value ∙ c.in_ok-absent.ensures))
    last))))))
    c.push-7.ensures
