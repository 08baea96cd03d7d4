use Rattle.tr_shared_tests.proofs.seats.settling.a_session_is_settled_when_all_seats_are_there.Given as goal

-- the plan that is given names itself
abbrev pub ghosts-settles : goal.ghosts-settles
ghosts-settles g a = record { plan = a.plan }
