use Rattle.tr_shared_tests.proofs.shared.rotating.a_tick_rotates_by_period_and_by_size.Given as goal

-- the plan that is given names itself
abbrev pub ghosts-ticks : goal.ghosts-ticks
ghosts-ticks g a = record { plan = a.plan }
