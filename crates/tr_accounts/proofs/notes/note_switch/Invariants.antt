use Rattle.tr_accounts.specs.StreamSteps.{switch_step}
use Rattle.tr_accounts.proofs.notes.note_switch.Given as goal

-- what is noted is what is given
abbrev pub ghosts-note_switch_as : goal.ghosts-note_switch_as
ghosts-note_switch_as g a = record { done = switch_step a.active }
