use Rattle.tr_shared_tests.proofs.shared.snapshots.example.a_snapshot_shows_the_example.Given as goal

-- the plan that is given names itself
abbrev pub ghosts-shows_example : goal.ghosts-shows_example
ghosts-shows_example g a = record { plan = a.plan }
