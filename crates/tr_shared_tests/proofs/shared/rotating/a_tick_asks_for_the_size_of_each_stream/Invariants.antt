use Rattle.tr_shared_tests.proofs.shared.rotating.a_tick_asks_for_the_size_of_each_stream.Given as goal

-- the plan that is given names itself
abbrev pub ghosts-ticks_by_the_second : goal.ghosts-ticks_by_the_second
ghosts-ticks_by_the_second g a = record { plan = a.plan }
