use Rattle.std.proofs.Common.{◌≡◌, ◌++◌, ◌-◌, drop, map}
use Rattle.tr_folders.specs.Tree.{by_text}
use Rattle.tr_survey.specs.Heads.{wrong_in_order}
use Rattle.tr_survey.specs.Listing.{key_of}
use Rattle.tr_survey.proofs.heads.push_in_order.Given as goal

abbrev pub invariant-loop-at : goal.invariant-loop-at
invariant-loop-at l =
    by_text l.lines.items ++ wrong_in_order (map key_of (drop (l.at - 1) l.archives))
    ≡ by_text l.initial.lines.items ++ wrong_in_order (map key_of l.archives)
