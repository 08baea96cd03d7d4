use Rattle.std.proofs.Common.{◌∙◌, ◌++◌, ℕ, ℤ, List, ap, length, map}
use Rattle.tr_picture.proofs.PageLemmas.{before, put}
use Rattle.tr_picture.specs.Drawing.{drawing, first_numbers, head_text, labels_part, legend_part, plot_part, scale_text, totals_part}
use Rattle.tr_picture.specs.Sessions.{faults_in, first_offset, seen}
use Rattle.tr_picture.proofs.drawing.drawing.Goals as goal

pub returns : goal.returns
returns c =
    let f = c.args.frame.now in
    let lines = map seen c.args.lines.now in
    let rows = length lines in
    let page = c.new-page.result.items in
    let one = c.push_head.new.page.items in
    let two = c.push_scale.new.page.items in
    let three = c.push_first_numbers.new.page.items in
    let four = c.push_labels_part.new.page.items in
    let five = c.push_plot_part.new.page.items in
    let six = c.push_totals_part.new.page.items in
    let after = c.push_legend.new.page.items in
    let end = legend_part rows in
    let totals = totals_part lines ++ end in
    let plot = plot_part f lines ++ totals in
    let labels = labels_part lines ++ plot in
    let numbers = first_numbers f lines ++ labels in
    let scale = scale_text (first_offset lines) f in
    let head = head_text rows c.args.faults (faults_in lines) in
    before page one after head (scale ++ numbers)
    (put page one (head_text c.rows_in-rows.result c.args.faults c.faults_in.result) head c.in_ok-push_head.ensures
    (ap (λ (n : ℕ). head_text n c.args.faults c.faults_in.result) c.rows_in-rows.ensures ∙ ap (head_text rows c.args.faults) c.faults_in.ensures))
    (before one two after scale numbers
    (put one two (scale_text c.first_offset.result f) scale c.in_ok-push_scale.ensures (ap (λ (o : ℤ). scale_text o f) c.first_offset.ensures))
    (before two three after (first_numbers f lines) labels c.in_ok-push_first_numbers.ensures
    (before three four after (labels_part lines) plot c.in_ok-push_labels_part.ensures
    (before four five after (plot_part f lines) totals c.in_ok-push_plot_part.ensures
    (before five six after (totals_part lines) end c.in_ok-push_totals_part.ensures
    (put six after (legend_part c.rows_in-rows.result) end c.in_ok-push_legend.ensures (ap legend_part c.rows_in-rows.ensures)))))))
    ∙ ap (λ (l : List ℕ). l ++ drawing f c.args.faults lines) c.new-page.ensures.items
