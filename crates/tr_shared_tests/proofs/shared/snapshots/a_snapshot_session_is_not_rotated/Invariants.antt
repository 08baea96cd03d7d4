use Rattle.tr_shared_tests.proofs.shared.snapshots.a_snapshot_session_is_not_rotated.Given as goal

-- the plan that is given names itself
abbrev pub ghosts-refuses : goal.ghosts-refuses
ghosts-refuses g a = record { plan = a.plan }
