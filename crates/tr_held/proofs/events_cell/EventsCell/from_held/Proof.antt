-- The same three fields.
use Rattle.tr_held.proofs.Handles.{events_cell, held}
use Rattle.tr_held.proofs.Moved.{moved}
use Rattle.tr_held.proofs.events_cell.EventsCell.from_held.Code as code
use Rattle.tr_held.proofs.events_cell.EventsCell.from_held.Statement.{statement}
use Rattle.tr_held.specs.Kept.{events_row}
use Rattle.tr_held.specs.contracts.events_cell.EventsCell.from_held.Key.{name as #self}

pub from_held_spec : {M : Type 1} → statement M
from_held_spec 𝓤 𝓛 𝓜 𝓡 wired = moved (held events_row) events_cell 𝓤 𝓛 𝓜 𝓡 #self (code.unfolded 𝓤 𝓛.H 𝓜 𝓡 wired)
