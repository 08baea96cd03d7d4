use Rattle.tr_shared_tests.proofs.shared.rotating.an_operator_is_answered_as_without_one.Given as goal

-- the plan that is given names itself
abbrev pub ghosts-operates : goal.ghosts-operates
ghosts-operates g a = record { plan = a.plan }
