use Rattle.std.proofs.Common.{◌≡◌, false, fold, map, take}
use Rattle.std.specs.List.{list_any}
use Rattle.tr_command.specs.Ordinary.{is_place, left_out, row_of_use}
use Rattle.tr_command.proofs.ordinary.add_left_out.Given as goal

-- none of the first arguments is a place, and the flags that are left out are there
abbrev pub invariant-arguments : goal.invariant-arguments
invariant-arguments l = (list_any is_place (take l.argument-index l.arguments) ≡ false)
    × (fold left_out (map row_of_use l.fn.uses.items) (take l.argument-index l.arguments) ≡ map row_of_use l.uses.items)
