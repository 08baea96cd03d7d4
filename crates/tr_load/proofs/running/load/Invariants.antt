use Rattle.tr_load.proofs.running.load.Given as goal

-- the plan that is made names itself
abbrev pub ghosts-run : goal.ghosts-run
ghosts-run g a = record { plan = a.plan }
