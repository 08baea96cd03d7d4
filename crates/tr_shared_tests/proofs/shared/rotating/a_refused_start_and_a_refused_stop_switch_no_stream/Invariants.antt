use Rattle.tr_shared_tests.proofs.shared.rotating.a_refused_start_and_a_refused_stop_switch_no_stream.Given as goal

-- the plan that is given names itself
abbrev pub ghosts-refuses_to_switch : goal.ghosts-refuses_to_switch
ghosts-refuses_to_switch g a = record { plan = a.plan }
