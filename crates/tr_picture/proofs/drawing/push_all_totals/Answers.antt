use Rattle.std.proofs.Common.{◌+◌, ◌++◌, ◌∙◌, ℕ, List, drop, map, ap, sym, append_assoc}
use Rattle.tr_picture.specs.Drawing.{totals_text, all_totals_text}
use Rattle.tr_picture.specs.Sessions.{Line, seen}
use Rattle.tr_survey.proofs.PrefixLemmas.{from_place}
use Rattle.tr_picture.proofs.drawing.push_all_totals.Goals as goal

pub loop-line-preserved : goal.loop-line-preserved
loop-line-preserved c =
    let i = c.loop-line.line-index in
    let rest = map seen (drop (i + 1) c.args.lines.now) in
    let page = c.loop-line.page.items in
    ap (λ (l : List ℕ). l ++ all_totals_text c.next_row-below.result rest) c.in_ok-push_totals.ensures
    ∙ append_assoc page (totals_text c.loop-line.y c.line-item.result.row.tally) (all_totals_text c.next_row-below.result rest)
    ∙ ap (λ (y : ℕ). page ++ (totals_text c.loop-line.y c.line-item.result.row.tally ++ all_totals_text y rest)) c.next_row-below.ensures
    ∙ ap (λ (l : List Line). page ++ all_totals_text c.loop-line.y l)
    (sym (from_place seen c.args.lines.now i c.line-item.result c.loop-line-test.true c.line-item.is))
    ∙ c.loop-line.invariant
