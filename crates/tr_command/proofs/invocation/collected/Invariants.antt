use Rattle.std.proofs.Common.{◌≡◌, ◌++◌}
use Rattle.std.specs.Vec.Iter.{into_iter_items, into_iter_len}
use Rattle.tr_command.proofs.invocation.collected.Given as goal

-- what was taken and what is left are the arguments
abbrev pub invariant-arguments : goal.invariant-arguments
invariant-arguments l = l.all.items ++ into_iter_items l.left ≡ into_iter_items l.fn.given

abbrev pub decreases-arguments : goal.decreases-arguments
decreases-arguments l = into_iter_len l.left
