use Rattle.tr_accounts.specs.StreamSteps.{offer_step}
use Rattle.tr_accounts.proofs.notes.note_offer.Given as goal

-- what is noted is what is given
abbrev pub ghosts-note_offer_as : goal.ghosts-note_offer_as
ghosts-note_offer_as g a = record { done = offer_step a.moment a.id a.payload.now a.answer }
