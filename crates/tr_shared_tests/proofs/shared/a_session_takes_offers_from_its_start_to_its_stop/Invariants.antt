use Rattle.tr_shared_tests.proofs.shared.a_session_takes_offers_from_its_start_to_its_stop.Given as goal

-- the plan that is given names itself
abbrev pub ghosts-starts : goal.ghosts-starts
ghosts-starts g a = record { plan = a.plan }
