use Rattle.tr_embed.proofs.main.Given as goal

-- the plan that is made names itself
abbrev pub ghosts-record : goal.ghosts-record
ghosts-record g a = record { plan = a.plan }
