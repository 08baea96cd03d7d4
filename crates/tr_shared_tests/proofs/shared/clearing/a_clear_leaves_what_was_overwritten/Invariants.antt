use Rattle.tr_shared_tests.proofs.shared.clearing.a_clear_leaves_what_was_overwritten.Given as goal

-- the plan that is given names itself
abbrev pub ghosts-clears_overwriting : goal.ghosts-clears_overwriting
ghosts-clears_overwriting g a = record { plan = a.plan }
