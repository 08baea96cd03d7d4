use Rattle.tr_recorded.proofs.TreeLemmas.{tree-shows}
use Rattle.tr_recorded.proofs.laws.a_tree_shows_what_was_made.Goals as goal

pub returns : goal.returns
returns c = tree-shows
