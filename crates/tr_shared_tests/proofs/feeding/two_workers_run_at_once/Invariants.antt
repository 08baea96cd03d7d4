use Rattle.tr_shared_tests.proofs.feeding.two_workers_run_at_once.Given as goal

-- the plan that is given names itself
abbrev pub ghosts-meets : goal.ghosts-meets
ghosts-meets g a = record { plan = a.plan }
