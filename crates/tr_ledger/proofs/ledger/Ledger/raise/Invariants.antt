use Rattle.tr_ledger.proofs.ledger.Ledger.raise.Given as goal

-- the amount is what is given
abbrev pub ghosts-raise_by : goal.ghosts-raise_by
ghosts-raise_by g a = record { amount = a.n }
