use Rattle.tr_shared_tests.proofs.shared.rotating.a_stopped_session_rotates_once.Given as goal

-- the plan that is given names itself
abbrev pub ghosts-rotates_whole : goal.ghosts-rotates_whole
ghosts-rotates_whole g a = record { plan = a.plan }
