use Rattle.tr_shared_tests.proofs.shared.the_longest_payload_is_kept_whole.Given as goal

-- the plan that is given names itself
abbrev pub ghosts-keeps_the_longest : goal.ghosts-keeps_the_longest
ghosts-keeps_the_longest g a = record { plan = a.plan }
