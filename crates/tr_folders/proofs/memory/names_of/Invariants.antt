use Rattle.std.proofs.Common.{◌≡◌, take}
use Rattle.tr_folders.specs.Tree.{by_text}
use Rattle.tr_folders.proofs.memory.names_of.Given as goal

abbrev pub invariant-loop-name : goal.invariant-loop-name
invariant-loop-name l = by_text l.copy.items ≡ by_text (take l.name-index l.names)
