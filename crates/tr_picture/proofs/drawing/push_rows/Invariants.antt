use Rattle.std.proofs.Common.{◌≡◌, ◌++◌, drop, map}
use Rattle.tr_picture.specs.Drawing.{rows_text}
use Rattle.tr_picture.specs.Sessions.{seen}
use Rattle.tr_picture.proofs.drawing.push_rows.Given as goal

abbrev pub invariant-loop-line : goal.invariant-loop-line
invariant-loop-line l =
    l.page.items ++ rows_text l.frame l.y (map seen (drop l.line-index l.lines)) ≡ l.fn.page.items ++ rows_text l.frame l.top (map seen l.lines)
