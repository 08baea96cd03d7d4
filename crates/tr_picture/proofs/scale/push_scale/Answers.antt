use Rattle.std.proofs.Common.{◌++◌, ap}
use Rattle.std.proofs.lemmas.Result.{on_ok_weaker}
use Rattle.tr_picture.proofs.PageLemmas.{before, put}
use Rattle.std.specs.Prelude.{codes}
use Rattle.tr_picture.specs.Frame.{last_moment}
use Rattle.tr_picture.specs.Drawing.{civil_text, mark_text}
use Rattle.tr_picture.proofs.scale.push_scale.Goals as goal

pub returns : goal.returns
returns c =
    on_ok_weaker c.push_mark-5.result
    (λ last.
    before c.args.page.now.items c.push.new.page.items c.push_mark-5.new.page.items (codes "<text x=\"160\" y=\"14\">") (civil_text c.args.offset c.args.frame.now.least ++ (codes "</text><text text-anchor=\"end\" x=\"960\" y=\"14\">" ++ (civil_text c.args.offset (last_moment c.args.frame.now) ++ (codes "</text>\n" ++ (mark_text c.args.frame.now.span 0 ++ (mark_text c.args.frame.now.span 1 ++ (mark_text c.args.frame.now.span 2 ++ (mark_text c.args.frame.now.span 3 ++ mark_text c.args.frame.now.span 4))))))))
    c.in_ok-push.ensures
    (before c.push.new.page.items c.push_civil.new.page.items c.push_mark-5.new.page.items (civil_text c.args.offset c.args.frame.now.least) (codes "</text><text text-anchor=\"end\" x=\"960\" y=\"14\">" ++ (civil_text c.args.offset (last_moment c.args.frame.now) ++ (codes "</text>\n" ++ (mark_text c.args.frame.now.span 0 ++ (mark_text c.args.frame.now.span 1 ++ (mark_text c.args.frame.now.span 2 ++ (mark_text c.args.frame.now.span 3 ++ mark_text c.args.frame.now.span 4)))))))
    c.in_ok-push_civil.ensures
    (before c.push_civil.new.page.items c.push-2.new.page.items c.push_mark-5.new.page.items (codes "</text><text text-anchor=\"end\" x=\"960\" y=\"14\">") (civil_text c.args.offset (last_moment c.args.frame.now) ++ (codes "</text>\n" ++ (mark_text c.args.frame.now.span 0 ++ (mark_text c.args.frame.now.span 1 ++ (mark_text c.args.frame.now.span 2 ++ (mark_text c.args.frame.now.span 3 ++ mark_text c.args.frame.now.span 4))))))
    c.in_ok-push-2.ensures
    (before c.push-2.new.page.items c.push_civil-2.new.page.items c.push_mark-5.new.page.items (civil_text c.args.offset (last_moment c.args.frame.now)) (codes "</text>\n" ++ (mark_text c.args.frame.now.span 0 ++ (mark_text c.args.frame.now.span 1 ++ (mark_text c.args.frame.now.span 2 ++ (mark_text c.args.frame.now.span 3 ++ mark_text c.args.frame.now.span 4)))))
    (put c.push-2.new.page.items c.push_civil-2.new.page.items (civil_text c.args.offset c.last_moment-last.result) (civil_text c.args.offset (last_moment c.args.frame.now)) c.in_ok-push_civil-2.ensures (ap (civil_text c.args.offset) c.last_moment-last.ensures))
    (before c.push_civil-2.new.page.items c.push-3.new.page.items c.push_mark-5.new.page.items (codes "</text>\n") (mark_text c.args.frame.now.span 0 ++ (mark_text c.args.frame.now.span 1 ++ (mark_text c.args.frame.now.span 2 ++ (mark_text c.args.frame.now.span 3 ++ mark_text c.args.frame.now.span 4))))
    c.in_ok-push-3.ensures
    (before c.push-3.new.page.items c.push_mark.new.page.items c.push_mark-5.new.page.items (mark_text c.args.frame.now.span 0) (mark_text c.args.frame.now.span 1 ++ (mark_text c.args.frame.now.span 2 ++ (mark_text c.args.frame.now.span 3 ++ mark_text c.args.frame.now.span 4)))
    c.in_ok-push_mark.ensures
    (before c.push_mark.new.page.items c.push_mark-2.new.page.items c.push_mark-5.new.page.items (mark_text c.args.frame.now.span 1) (mark_text c.args.frame.now.span 2 ++ (mark_text c.args.frame.now.span 3 ++ mark_text c.args.frame.now.span 4))
    c.in_ok-push_mark-2.ensures
    (before c.push_mark-2.new.page.items c.push_mark-3.new.page.items c.push_mark-5.new.page.items (mark_text c.args.frame.now.span 2) (mark_text c.args.frame.now.span 3 ++ mark_text c.args.frame.now.span 4)
    c.in_ok-push_mark-3.ensures
    (before c.push_mark-3.new.page.items c.push_mark-4.new.page.items c.push_mark-5.new.page.items (mark_text c.args.frame.now.span 3) (mark_text c.args.frame.now.span 4)
    c.in_ok-push_mark-4.ensures
    last)))))))))
    c.push_mark-5.ensures
