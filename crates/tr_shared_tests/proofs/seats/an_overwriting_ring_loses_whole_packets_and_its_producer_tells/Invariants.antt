use Rattle.tr_shared_tests.proofs.seats.an_overwriting_ring_loses_whole_packets_and_its_producer_tells.Given as goal

-- the plan that is given names itself
abbrev pub ghosts-offers : goal.ghosts-offers
ghosts-offers g a = record { plan = a.plan }
