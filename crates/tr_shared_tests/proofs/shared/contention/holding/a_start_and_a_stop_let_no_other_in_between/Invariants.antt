use Rattle.tr_shared_tests.proofs.shared.contention.holding.a_start_and_a_stop_let_no_other_in_between.Given as goal

-- the plan that is given names itself
abbrev pub ghosts-switches : goal.ghosts-switches
ghosts-switches g a = record { plan = a.plan }
