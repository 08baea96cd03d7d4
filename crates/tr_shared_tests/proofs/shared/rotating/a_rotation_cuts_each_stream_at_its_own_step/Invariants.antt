use Rattle.tr_shared_tests.proofs.shared.rotating.a_rotation_cuts_each_stream_at_its_own_step.Given as goal

-- the plan that is given names itself
abbrev pub ghosts-rotates_between : goal.ghosts-rotates_between
ghosts-rotates_between g a = record { plan = a.plan }
