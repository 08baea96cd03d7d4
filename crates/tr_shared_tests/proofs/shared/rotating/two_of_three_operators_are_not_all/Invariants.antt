use Rattle.tr_shared_tests.proofs.shared.rotating.two_of_three_operators_are_not_all.Given as goal

-- the plan that is given names itself
abbrev pub ghosts-operates : goal.ghosts-operates
ghosts-operates g a = record { plan = a.plan }
