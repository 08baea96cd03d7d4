use Rattle.tr_shared_tests.proofs.feeding.records_of_all_lengths_come_through.Given as goal

-- the plan that is given names itself
abbrev pub ghosts-feeds : goal.ghosts-feeds
ghosts-feeds g a = record { plan = a.plan }
