use Rattle.tr_bench.proofs.shared.all_rounds_of_threads.Given as goal

-- the plan that is given names itself
abbrev pub ghosts-round_of_threads : goal.ghosts-round_of_threads
ghosts-round_of_threads g a = record { plan = a.plan }
