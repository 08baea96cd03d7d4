use Rattle.tr_accounts.specs.StreamSteps.{clear_step}
use Rattle.tr_accounts.proofs.notes.note_clear.Given as goal

-- what is noted is what is given
abbrev pub ghosts-note_clear_as : goal.ghosts-note_clear_as
ghosts-note_clear_as g a = record { done = clear_step a.answer }
