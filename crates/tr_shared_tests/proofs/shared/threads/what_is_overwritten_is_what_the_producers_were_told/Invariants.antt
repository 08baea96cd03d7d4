use Rattle.tr_shared_tests.proofs.shared.threads.what_is_overwritten_is_what_the_producers_were_told.Given as goal

-- the plan that is given names itself
abbrev pub ghosts-run : goal.ghosts-run
ghosts-run g a = record { plan = a.plan }
