use Rattle.tr_operations.proofs.notes.note.Given as goal

-- what is noted is what is given
abbrev pub ghosts-note_as : goal.ghosts-note_as
ghosts-note_as g a = record { done = a.step }
