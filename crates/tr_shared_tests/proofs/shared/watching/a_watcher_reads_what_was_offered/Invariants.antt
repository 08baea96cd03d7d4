use Rattle.tr_shared_tests.proofs.shared.watching.a_watcher_reads_what_was_offered.Given as goal

-- the plan that is given names itself
abbrev pub ghosts-reads : goal.ghosts-reads
ghosts-reads g a = record { plan = a.plan }
