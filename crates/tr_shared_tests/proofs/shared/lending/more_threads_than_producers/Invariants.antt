use Rattle.tr_shared_tests.proofs.shared.lending.more_threads_than_producers.Given as goal

-- the plan that is given names itself
abbrev pub ghosts-lends_to_many : goal.ghosts-lends_to_many
ghosts-lends_to_many g a = record { plan = a.plan }
