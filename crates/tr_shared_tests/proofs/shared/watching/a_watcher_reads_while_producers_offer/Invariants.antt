use Rattle.tr_shared_tests.proofs.shared.watching.a_watcher_reads_while_producers_offer.Given as goal

-- the plan that is given names itself
abbrev pub ghosts-shares : goal.ghosts-shares
ghosts-shares g a = record { plan = a.plan }
