use Rattle.tr_shared_tests.proofs.shared.clearing.a_snapshot_session_refuses_a_clear.Given as goal

-- the plan that is given names itself
abbrev pub ghosts-refuses : goal.ghosts-refuses
ghosts-refuses g a = record { plan = a.plan }
