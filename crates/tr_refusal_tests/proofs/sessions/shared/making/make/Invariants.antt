use Rattle.tr_refusal_tests.proofs.sessions.shared.making.make.Given as goal

-- the plan that is given names itself
abbrev pub ghosts-build : goal.ghosts-build
ghosts-build g a = record { plan = a.plan }
