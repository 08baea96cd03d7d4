use Rattle.std.proofs.Common.{◌≡◌, ◌++◌, drop}
use Rattle.tr_picture.specs.Drawing.{losses_text}
use Rattle.tr_picture.proofs.marks.push_losses.Given as goal

abbrev pub invariant-loop-bar : goal.invariant-loop-bar
invariant-loop-bar l = l.page.items ++ losses_text l.frame (drop l.bar-index l.bars) ≡ l.fn.page.items ++ losses_text l.frame l.bars
