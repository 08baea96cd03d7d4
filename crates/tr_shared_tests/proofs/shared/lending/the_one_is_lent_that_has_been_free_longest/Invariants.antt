use Rattle.tr_shared_tests.proofs.shared.lending.the_one_is_lent_that_has_been_free_longest.Given as goal

-- the plan that is given names itself
abbrev pub ghosts-lends_in_order : goal.ghosts-lends_in_order
ghosts-lends_in_order g a = record { plan = a.plan }
