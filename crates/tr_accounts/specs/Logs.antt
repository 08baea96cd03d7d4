-- What was logged of accepted offers.
use Rattle.std.specs.Prelude.{ℕ, List, map}
use Rattle.tr_accounts.specs.StreamSteps.{AcceptedOffer}

-- the items of accepted offers, in order, if an item is made of a moment, an id and a payload
abbrev pub items_of : {X : Type 0} → (ℕ → ℕ → List ℕ → X) → List AcceptedOffer → List X
items_of item offers = map (λ o. item o.moment o.id o.payload) offers
