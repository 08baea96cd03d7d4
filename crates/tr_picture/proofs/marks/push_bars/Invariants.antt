use Rattle.std.proofs.Common.{◌≡◌, ◌++◌, None, drop}
use Rattle.tr_picture.specs.Drawing.{bars_text}
use Rattle.tr_picture.proofs.marks.push_bars.Given as goal

abbrev pub invariant-loop-bar : goal.invariant-loop-bar
invariant-loop-bar l =
    l.page.items ++ bars_text l.frame l.before (drop l.bar-index l.bars) ≡ l.fn.page.items ++ bars_text l.frame None l.bars
