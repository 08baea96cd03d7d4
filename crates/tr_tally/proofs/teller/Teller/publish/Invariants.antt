use Rattle.tr_tally.proofs.teller.Teller.publish.Given as goal

-- the count is what is given
abbrev pub ghosts-publish_known : goal.ghosts-publish_known
ghosts-publish_known g a = record { count = a.n }
