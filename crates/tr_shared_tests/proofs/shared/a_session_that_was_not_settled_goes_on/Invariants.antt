use Rattle.tr_shared_tests.proofs.shared.a_session_that_was_not_settled_goes_on.Given as goal

-- the plan that is given names itself
abbrev pub ghosts-settles : goal.ghosts-settles
ghosts-settles g a = record { plan = a.plan }
