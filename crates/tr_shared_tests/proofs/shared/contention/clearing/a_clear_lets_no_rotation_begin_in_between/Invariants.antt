use Rattle.tr_shared_tests.proofs.shared.contention.clearing.a_clear_lets_no_rotation_begin_in_between.Given as goal

-- the plan that is given names itself
abbrev pub ghosts-clears : goal.ghosts-clears
ghosts-clears g a = record { plan = a.plan }
