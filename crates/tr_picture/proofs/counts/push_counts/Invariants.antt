use Rattle.std.proofs.Common.{◌≡◌, ◌++◌, drop}
use Rattle.tr_picture.specs.Counts.{counts_text}
use Rattle.tr_picture.proofs.counts.push_counts.Given as goal

abbrev pub invariant-loop-bar : goal.invariant-loop-bar
invariant-loop-bar l =
    l.page.items ++ counts_text l.what l.frame l.room (drop l.bar-index l.bars) ≡ l.fn.page.items ++ counts_text l.what l.frame 0 l.bars
