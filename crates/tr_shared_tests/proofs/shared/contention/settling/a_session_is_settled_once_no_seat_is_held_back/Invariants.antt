use Rattle.tr_shared_tests.proofs.shared.contention.settling.a_session_is_settled_once_no_seat_is_held_back.Given as goal

-- the plan that is given names itself
abbrev pub ghosts-settles : goal.ghosts-settles
ghosts-settles g a = record { plan = a.plan }
