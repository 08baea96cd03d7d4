use Rattle.tr_shared_tests.proofs.shared.snapshots.a_snapshot_shows_what_the_rings_hold.Given as goal

-- the plan that is given names itself
abbrev pub ghosts-shows : goal.ghosts-shows
ghosts-shows g a = record { plan = a.plan }
