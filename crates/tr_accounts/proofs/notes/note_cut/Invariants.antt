use Rattle.tr_accounts.specs.StreamSteps.{cut_step}
use Rattle.tr_accounts.proofs.notes.note_cut.Given as goal

-- what is noted is what is given
abbrev pub ghosts-note_cut_as : goal.ghosts-note_cut_as
ghosts-note_cut_as g a = record { done = cut_step a.moment a.answer }
