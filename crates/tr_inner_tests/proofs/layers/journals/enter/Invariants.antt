use Rattle.tr_inner_tests.specs.declared.layers.journals.Visit.TheVariants.{Entered}
use Rattle.tr_inner_tests.proofs.layers.journals.enter.Given as goal

abbrev pub ghosts-enter_as : goal.ghosts-enter_as
ghosts-enter_as a = record { done = Entered a.guests }
