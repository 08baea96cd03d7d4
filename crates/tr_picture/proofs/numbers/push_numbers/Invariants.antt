use Rattle.std.proofs.Common.{◌≡◌, ◌++◌, None, drop}
use Rattle.tr_picture.specs.Drawing.{numbers_text}
use Rattle.tr_picture.proofs.numbers.push_numbers.Given as goal

abbrev pub invariant-loop-bar : goal.invariant-loop-bar
invariant-loop-bar l =
    l.page.items ++ numbers_text l.frame l.room l.before (drop l.bar-index l.bars) ≡ l.fn.page.items ++ numbers_text l.frame 0 None l.bars
