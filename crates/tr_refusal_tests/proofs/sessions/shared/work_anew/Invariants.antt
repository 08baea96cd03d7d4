use Rattle.tr_refusal_tests.proofs.sessions.shared.work_anew.Given as goal

-- the plan that is given names itself
abbrev pub ghosts-work : goal.ghosts-work
ghosts-work g a = record { plan = a.plan }
