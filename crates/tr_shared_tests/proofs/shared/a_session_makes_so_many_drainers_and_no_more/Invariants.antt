use Rattle.tr_shared_tests.proofs.shared.a_session_makes_so_many_drainers_and_no_more.Given as goal

-- the plan that is given names itself
abbrev pub ghosts-makes_drainers : goal.ghosts-makes_drainers
ghosts-makes_drainers g a = record { plan = a.plan }
