use Rattle.tr_shared_tests.proofs.shared.contention.rotations.two_operators_cut_each_stream_once.Given as goal

-- the plan that is given names itself
abbrev pub ghosts-cuts : goal.ghosts-cuts
ghosts-cuts g a = record { plan = a.plan }
