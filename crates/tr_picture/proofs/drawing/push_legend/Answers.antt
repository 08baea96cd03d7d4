use Rattle.std.proofs.Common.{◌∙◌, ap}
use Rattle.std.proofs.lemmas.Result.{on_ok_weaker}
use Rattle.tr_picture.proofs.PageLemmas.{before, put}
use Rattle.tr_picture.specs.Drawing.{legend_front}
use Rattle.tr_picture.proofs.drawing.push_legend.Goals as goal

pub returns : goal.returns
returns c =
    on_ok_weaker c.push-2.result
    (λ last.
    (before _ _ _ _ _ (put _ _ _ _ c.in_ok-push.ensures (c.as_str.ensures.value ∙ c.in_ok-front.ensures ∙ ap legend_front c.legend_height-y.ensures))
    last))
    c.push-2.ensures
