use Rattle.tr_shared_tests.proofs.seats.a_take_raises_the_seat_of_its_stream.Given as goal

-- the plan that is given names itself
abbrev pub ghosts-takes : goal.ghosts-takes
ghosts-takes g a = record { plan = a.plan }
