use Rattle.std.proofs.Common.{◌≡◌, drop}
use Rattle.std.specs.BTreeSet.{insert_key}
use Rattle.std.specs.List.{fold}
use Rattle.tr_folders.specs.Tree.{by_text}
use Rattle.tr_survey.specs.Listing.{names_in_order}
use Rattle.tr_survey.specs.Order.{name_cmp}
use Rattle.tr_survey.proofs.listing.names_in_order.Given as goal

abbrev pub invariant-loop-name : goal.invariant-loop-name
invariant-loop-name l = fold (insert_key name_cmp) (by_text l.found.keys) (by_text (drop l.name-index l.names)) ≡ names_in_order (by_text l.names)
