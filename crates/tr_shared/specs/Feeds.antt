-- What a feeder's log says of its producer's offers.
use Rattle.std.specs.Prelude.{◌≡◌, ℕ, List}
use Rattle.tr_accounts.specs.Logs.{items_of}
use Rattle.tr_accounts.specs.StreamSteps.{accepted_in}
use Rattle.tr_seats.specs.Slots.{ProducerState}
use Rattle.tr_threads.specs.declared.items.Item.{Item}

-- the item of an offer
abbrev pub offered_item : ℕ → ℕ → List ℕ → Item
offered_item moment id payload = record { moment = moment; id = id; payload = payload }

-- a log has just the producer's accepted offers, in order
abbrev pub IsLogOf : ProducerState → List Item → Type 0
IsLogOf p log = log ≡ items_of offered_item (accepted_in p.steps)
