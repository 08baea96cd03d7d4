use Rattle.tr_shared_tests.proofs.seats.a_full_ring_discards_and_its_producer_tells.Given as goal

-- the plan that is given names itself
abbrev pub ghosts-offers : goal.ghosts-offers
ghosts-offers g a = record { plan = a.plan }
