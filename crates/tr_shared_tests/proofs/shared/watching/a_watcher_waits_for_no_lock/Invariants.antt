use Rattle.tr_shared_tests.proofs.shared.watching.a_watcher_waits_for_no_lock.Given as goal

-- the plan that is given names itself
abbrev pub ghosts-reads_beside : goal.ghosts-reads_beside
ghosts-reads_beside g a = record { plan = a.plan }
