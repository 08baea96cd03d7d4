use Rattle.tr_shared_tests.proofs.seats.a_desk_starts_and_stops_its_session.Given as goal

-- the plan that is given names itself
abbrev pub ghosts-desks : goal.ghosts-desks
ghosts-desks g a = record { plan = a.plan }
