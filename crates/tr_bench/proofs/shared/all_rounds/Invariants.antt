use Rattle.tr_bench.proofs.shared.all_rounds.Given as goal

-- the plan that is given names itself
abbrev pub ghosts-round : goal.ghosts-round
ghosts-round g a = record { plan = a.plan }
