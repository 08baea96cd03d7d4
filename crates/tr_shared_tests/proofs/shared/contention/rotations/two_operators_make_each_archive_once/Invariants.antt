use Rattle.tr_shared_tests.proofs.shared.contention.rotations.two_operators_make_each_archive_once.Given as goal

-- the plan that is given names itself
abbrev pub ghosts-rotates : goal.ghosts-rotates
ghosts-rotates g a = record { plan = a.plan }
