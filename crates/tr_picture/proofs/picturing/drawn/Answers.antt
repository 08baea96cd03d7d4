use Rattle.std.proofs.Common.{◌≡◌, ◌∙◌, ap, map}
use Rattle.tr_picture.specs.Drawing.{drawing}
use Rattle.tr_picture.specs.Frame.{rough}
use Rattle.tr_picture.specs.Picture.{frame_by}
use Rattle.tr_picture.specs.Sessions.{lines_of, seen}
use Rattle.tr_picture.specs.declared.frame.Frame.{Frame}
use Rattle.tr_picture.proofs.picturing.drawn.Goals as goal

pub returns-clause-text : goal.returns-clause-text
returns-clause-text g c t known =
    let dir = c.args.dir.now in
    let first : map seen c.deref.result.now ≡ lines_of rough t dir =
    ap (map seen) c.deref.ensures.value ∙ c.in_ok-first.ensures.lines t known ∙ ap (λ (f : Frame). lines_of f t dir) c.rough-rough.ensures in
    let frame : c.frame_by-frame.result ≡ frame_by (lines_of rough t dir) = c.frame_by-frame.ensures ∙ ap frame_by first in
    let lines : map seen c.deref-2.result.now ≡ lines_of c.frame_by-frame.result t dir =
    ap (map seen) c.deref-2.ensures.value ∙ c.in_ok-lines.ensures.lines t (c.in_ok-first.ensures.tree ∙ known) in
    c.in_ok-text.ensures ∙ ap (drawing c.frame_by-frame.result c.args.faults) lines
    ∙ ap (λ (f : Frame). drawing f c.args.faults (lines_of f t dir)) frame
