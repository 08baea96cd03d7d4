use Rattle.tr_shared_tests.proofs.shared.operators.operators_rotate_while_rings_overwrite.Given as goal

-- the plan that is given names itself
abbrev pub ghosts-run : goal.ghosts-run
ghosts-run g a = record { plan = a.plan }
