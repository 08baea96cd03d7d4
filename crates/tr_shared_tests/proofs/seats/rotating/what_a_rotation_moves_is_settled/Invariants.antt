use Rattle.tr_shared_tests.proofs.seats.rotating.what_a_rotation_moves_is_settled.Given as goal

-- the plan that is given names itself
abbrev pub ghosts-rotates : goal.ghosts-rotates
ghosts-rotates g a = record { plan = a.plan }
