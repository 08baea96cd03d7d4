use Rattle.tr_refusal_tests.proofs.sessions.shared.free.calls_of_a_shared_session_that_take_no_memory_do_not_miss_it.Given as goal

-- the plan that is given names itself
abbrev pub ghosts-work_freely : goal.ghosts-work_freely
ghosts-work_freely g a = record { plan = a.plan }
