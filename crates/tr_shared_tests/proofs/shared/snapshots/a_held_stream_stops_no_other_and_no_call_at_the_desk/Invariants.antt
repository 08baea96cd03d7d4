use Rattle.tr_shared_tests.proofs.shared.snapshots.a_held_stream_stops_no_other_and_no_call_at_the_desk.Given as goal

-- the plan that is given names itself
abbrev pub ghosts-holds : goal.ghosts-holds
ghosts-holds g a = record { plan = a.plan }
