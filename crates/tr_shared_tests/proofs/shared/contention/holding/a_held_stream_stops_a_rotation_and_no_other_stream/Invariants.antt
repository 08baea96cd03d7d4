use Rattle.tr_shared_tests.proofs.shared.contention.holding.a_held_stream_stops_a_rotation_and_no_other_stream.Given as goal

-- the plan that is given names itself
abbrev pub ghosts-holds : goal.ghosts-holds
ghosts-holds g a = record { plan = a.plan }
