use Rattle.tr_tally.proofs.teller.Teller.note.Given as goal

-- the count is the last one
abbrev pub ghosts-note_known : goal.ghosts-note_known
ghosts-note_known g a = record { count = a.self.now.count }
