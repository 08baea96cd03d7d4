use Rattle.tr_accounts.specs.StreamSteps.{take_step}
use Rattle.tr_accounts.proofs.notes.note_take.Given as goal

-- what is noted is what is given
abbrev pub ghosts-note_take_as : goal.ghosts-note_take_as
ghosts-note_take_as g a = record { done = take_step a.answer }
