use Rattle.tr_shared_tests.proofs.shared.clearing.a_clear_leaves_what_was_discarded_and_what_is_archived.Given as goal

-- the plan that is given names itself
abbrev pub ghosts-clears_discarding : goal.ghosts-clears_discarding
ghosts-clears_discarding g a = record { plan = a.plan }
