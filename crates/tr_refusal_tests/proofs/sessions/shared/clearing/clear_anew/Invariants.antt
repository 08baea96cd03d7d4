use Rattle.tr_refusal_tests.proofs.sessions.shared.clearing.clear_anew.Given as goal

-- the plan that is given names itself
abbrev pub ghosts-clear : goal.ghosts-clear
ghosts-clear g a = record { plan = a.plan }
