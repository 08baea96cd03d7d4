use Rattle.tr_shared_tests.proofs.shared.declared.an_offer_of_another_layout.Given as goal

-- the plan that is given names itself
abbrev pub ghosts-refuses : goal.ghosts-refuses
ghosts-refuses g a = record { plan = a.plan }
